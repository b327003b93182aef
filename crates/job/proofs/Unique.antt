-- Any two answers that the contract of `read`, as Rattle reads it, allows coincide.
use mathlib.Core.Path.{◌≡◌, sym, ◌∙◌}
use contract.Lifetimes.{Lfts}
use borrow.Fn.Kinds.{ended_of}
use denote.Triple.Clauses.{AtExit}
use Rattle.job.proofs.read.Kinds as kinds
use Rattle.job.proofs.read.Reads as reads

pub read_unique : (κs : Lfts 1) (a : _) (r₁ r₂ : _) (s₁ s₂ : AtExit (ended_of 1 kinds.ps kinds.r) κs) → reads.Post κs a r₁ s₁
    → reads.Post κs a r₂ s₂
    → r₁ ≡ r₂
read_unique κs a r₁ r₂ s₁ s₂ p q = p ∙ sym q
