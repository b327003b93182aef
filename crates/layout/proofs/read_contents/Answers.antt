-- `layout::read_contents` goes on after each part that is not refused, as its definition does.
use Rattle.std.proofs.Common.{arith, sym, ◌∙◌, ap, ap₂, ◌≡◌, ◌+◌, ◌*◌, ℕ, List, Ok, Err, Result}
use Rattle.std.proofs.lemmas.Result.{err_from_is_err_and}
use Rattle.layout.specs.ContentsLaws.{HeadKept, fault_of, contents_head, contents_plan, contents_entries, head_accepted}
use Rattle.search.specs.First.{first_holding}
use Rattle.layout.specs.declared.Contents.{Contents}
use Rattle.layout.specs.declared.Refused.{Refused}
use Rattle.layout.specs.Contents.{head_verdict, entries_from, faulty_byte}
use Rattle.layout.specs.File.{tables, no_entries}
use Rattle.layout.proofs.read_contents.Goals as goal
use Rattle.layout.proofs.read_contents.Goals.{After-first_faulty}

-- the file's bytes; the head is accepted, with its number of tables; and the first faulty plan byte is the definition's
abbrev file : After-first_faulty → List ℕ
file c = c.args.s.now

head_is : (c : After-first_faulty) → Ok c.in_ok-k.k ≡ head_verdict (file c)
head_is c = sym c.in_ok-k.was ∙ c.head.ensures

kept : (c : After-first_faulty) → HeadKept (file c) × (c.in_ok-k.k ≡ tables (file c))
kept c = head_accepted _ _ (head_is c)

faulty_is : (c : After-first_faulty) → c.first_faulty.result ≡ fault_of (file c)
faulty_is c =
    c.first_faulty.ensures
    ∙ ap₂ (λ (plan : List ℕ) (k : ℕ). first_holding (faulty_byte plan k) 8 0) c.plan_of-plan.ensures (kept c).1

pub returns-in_err-k : goal.returns-in_err-k
returns-in_err-k c =
    let p = err_from_is_err_and _ c.from_residual.ensures.1 in
    p.1 ∙ ap err p.2 ∙ contents_head _ _ (sym c.in_err-k.was ∙ c.head.ensures)
  where
    err : Refused → Result Contents Refused
    err x = Err x

pub plan_of-plan-requires : goal.plan_of-plan-requires
plan_of-plan-requires c = (head_accepted _ _ (sym c.in_ok-k.was ∙ c.head.ensures)).0.least

pub returns-in-Some : goal.returns-in-Some
returns-in-Some c =
    let at = (goal.at.returns-in-Some c).After-first_faulty in
    contents_plan _ _ _ (head_is at) (sym c.in-Some.is ∙ faulty_is at)

pub read_entries-requires : goal.read_entries-requires
read_entries-requires c =
    let at = (goal.at.read_entries-requires c).After-first_faulty in
    let h = (kept at).0 in
    let k = (kept at).1 in
    (omega arith, omega arith, h.most)

pub returns : goal.returns
returns c =
    let at = (goal.at.returns c).After-first_faulty in
    let entries : List ℕ → ℕ → Result Contents Refused =
    λ plan k. entries_from (file at) k plan k 0 (12 + 16 * k) no_entries in
    c.read_entries.ensures
    ∙ ap₂ entries c.plan_of-plan.ensures (kept at).1
    ∙ contents_entries _ _ (head_is at) (sym c.in_default.is ∙ faulty_is at)
