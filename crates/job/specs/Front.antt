-- What reading looks at: the file's length and its first 12 + 16 × k bytes, which are the head, the plan and the
-- contents entries. In this order: the numbers there; the plan; an entry; the entries from one on; the contents; what
-- `read` answers.
use Prim.Native.Nat.{ℕ, zero, suc, ◌+◌, ◌*◌, ◌≤◌, ◌<◌}
use Rattle.std.specs.Prelude.{◌≡◌, List, length, get_or, set}
use Rattle.std.proofs.Common.{ap, arith}
use Rattle.std.proofs.Math.Path.{ap₂, fun_ext}
use Rattle.numbers.specs.Numbers.{number_at}
use Rattle.numbers.specs.NumberLaws.{number_same}
use Rattle.layout.specs.declared.Entry.{Entry}
use Rattle.layout.specs.File.{tables, plan_of, entry_at, body_size, contents_end, no_entries}
use Rattle.layout.specs.Contents.{head_verdict, judged, refused_at, on_entry, entries_from, contents_of}
use Rattle.job.specs.Read.{read_contents, read_answer}

-- two files of one length with the same bytes up to where the first one's contents end
module _ (s t : List ℕ) (long : length s ≡ length t)
    (same : (i : ℕ) → i < 12 + 16 * tables s → get_or s i 0 ≡ get_or t i 0) where
  -- they have the same number at a place whose four bytes lie before that end
  number_front : (at : ℕ) → at + 4 ≤ 12 + 16 * tables s → number_at s at ≡ number_at t at
  number_front at h = number_same s t at long (λ i a b. same i (omega arith))

  -- as many tables
  tables_front : tables s ≡ tables t
  tables_front = number_front 0 (omega arith)

  -- the same plan
  plan_front : plan_of s ≡ plan_of t
  plan_front =
      rw (
        same 4 (omega arith),
        same 5 (omega arith),
        same 6 (omega arith),
        same 7 (omega arith),
        same 8 (omega arith),
        same 9 (omega arith),
        same 10 (omega arith),
        same 11 (omega arith),
      )

  -- the same entries
  entry_front : (i : ℕ) → i < tables s → entry_at s i ≡ entry_at t i
  entry_front i h =
      rw (
        number_front (12 + 16 * i) (omega arith),
        number_front (12 + 16 * i + 4) (omega arith),
        number_front (12 + 16 * i + 8) (omega arith),
        number_front (12 + 16 * i + 12) (omega arith),
      )

  -- the same outcome for an entry's numbers
  judged_front : (i end : ℕ) → i < tables s → judged (entry_at s i) (length s) end ≡ judged (entry_at t i) (length t) end
  judged_front i end h = ap₂ (λ e n. judged e n end) (entry_front i h) long

  -- the same outcome for n entries from entry i on
  entries_front : (k : ℕ) (plan : List ℕ) (n i end : ℕ) (entries : List Entry) → i + n ≤ tables s
      → entries_from s k plan n i end entries ≡ entries_from t k plan n i end entries
  unfolding entries_from
  entries_front k plan zero i end entries h = rw long
  entries_front k plan (suc n) i end entries h =
      ap₂ (λ v go. on_entry v go (λ r. refused_at r i)) (judged_front i end (omega arith))
      (fun_ext (λ e. entries_front k plan n (i + 1) (end + body_size e) (set entries i e) (omega arith)))

  -- the same contents
  contents_front : contents_of s ≡ contents_of t
  unfolding contents_of head_verdict
  contents_front =
      rw (
        long,
        tables_front,
        plan_front,
        entries_front (tables t) (plan_of t) (tables t) 0 (contents_end t) no_entries (omega (arith, tables_front)),
      )

-- reading looks at the file's length and at its first 12 + 16 × k bytes, and at nothing else
pub reads_front : (s t : List ℕ) → length s ≡ length t → ((i : ℕ) → i < 12 + 16 * tables s → get_or s i 0 ≡ get_or t i 0)
    → read_answer s ≡ read_answer t
unfolding read_answer
reads_front s t long same = ap read_contents (contents_front s t long same)
