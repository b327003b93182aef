-- Any two outcomes that a contract, as Rattle reads it, allows coincide: the answer and every lent area.
use mathlib.Core.Path.{◌≡◌, sym, ap, ◌∙◌}
use contract.Lifetimes.{Lfts}
use borrow.Fn.Kinds.{ended_of}
use denote.Triple.Clauses.{AtExit}
use Rattle.korrigwen_c.specs.Numbers.{BegunWith, RanWith, JoinedWith}
use Rattle.korrigwen_c.proofs.korrigwen_read.Kinds as read-kinds
use Rattle.korrigwen_c.proofs.korrigwen_read.Reads as read-reads
use Rattle.korrigwen_c.proofs.korrigwen_begin.Kinds as begin-kinds
use Rattle.korrigwen_c.proofs.korrigwen_begin.Reads as begin-reads
use Rattle.korrigwen_c.proofs.korrigwen_run.Kinds as run-kinds
use Rattle.korrigwen_c.proofs.korrigwen_run.Reads as run-reads
use Rattle.korrigwen_c.proofs.korrigwen_join_values.Kinds as values-kinds
use Rattle.korrigwen_c.proofs.korrigwen_join_values.Reads as values-reads

pub read_unique : (κs : Lfts 1) (a : _) (r₁ r₂ : _) (s₁ s₂ : AtExit (ended_of 1 read-kinds.ps read-kinds.r) κs)
    → read-reads.Post κs a r₁ s₁ → read-reads.Post κs a r₂ s₂
    → r₁ ≡ r₂
read_unique κs a r₁ r₂ s₁ s₂ p q = p ∙ sym q

pub begin_unique : (κs : Lfts 2) (a : _) (r₁ r₂ : _) (s₁ s₂ : AtExit (ended_of 2 begin-kinds.ps begin-kinds.r) κs)
    → begin-reads.Post κs a r₁ s₁ → begin-reads.Post κs a r₂ s₂
    → (r₁ ≡ r₂) × (s₁.1.0.now ≡ s₂.1.0.now)
begin_unique κs a r₁ r₂ s₁ s₂ p q = (ap (λ (x : BegunWith). x.answer) (p ∙ sym q), ap (λ (x : BegunWith). x.marks) (p ∙ sym q))

pub run_unique : (κs : Lfts 3) (a : _) (r₁ r₂ : _) (s₁ s₂ : AtExit (ended_of 3 run-kinds.ps run-kinds.r) κs)
    → run-reads.Post κs a r₁ s₁ → run-reads.Post κs a r₂ s₂
    → (r₁ ≡ r₂) × (s₁.1.1.0.now ≡ s₂.1.1.0.now) × (s₁.1.1.1.1.0.now ≡ s₂.1.1.1.1.0.now)
run_unique κs a r₁ r₂ s₁ s₂ p q = (
  ap (λ (x : RanWith). x.answer) (p ∙ sym q),
  ap (λ (x : RanWith). x.marks) (p ∙ sym q),
  ap (λ (x : RanWith). x.area) (p ∙ sym q),
)

pub join_values_unique : (κs : Lfts 3) (a : _) (r₁ r₂ : _) (s₁ s₂ : AtExit (ended_of 3 values-kinds.ps values-kinds.r) κs)
    → values-reads.Post κs a r₁ s₁ → values-reads.Post κs a r₂ s₂
    → (r₁ ≡ r₂) × (s₁.1.1.0.now ≡ s₂.1.1.0.now)
join_values_unique κs a r₁ r₂ s₁ s₂ p q =
    (ap (λ (x : JoinedWith). x.answer) (p ∙ sym q), ap (λ (x : JoinedWith). x.values) (p ∙ sym q))
