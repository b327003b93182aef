-- Any two answers that a public contract, as Rattle reads it, allows coincide.
use mathlib.Core.Path.{◌≡◌, sym, ◌∙◌}
use contract.Lifetimes.{Lfts}
use borrow.Fn.Kinds.{ended_of}
use denote.Triple.Clauses.{AtExit}
use Rattle.flat.proofs.numbers_of.Kinds as numbers-kinds
use Rattle.flat.proofs.numbers_of.Reads as numbers-reads
use Rattle.flat.proofs.state_of.Kinds as state-kinds
use Rattle.flat.proofs.state_of.Reads as state-reads

pub numbers_of_unique : (κs : Lfts 0) (a : _) (r₁ r₂ : _) (s₁ s₂ : AtExit (ended_of 0 numbers-kinds.ps numbers-kinds.r) κs)
    → numbers-reads.Post κs a r₁ s₁ → numbers-reads.Post κs a r₂ s₂
    → r₁ ≡ r₂
numbers_of_unique κs a r₁ r₂ s₁ s₂ p q = p ∙ sym q

pub state_of_unique : (κs : Lfts 1) (a : _) (r₁ r₂ : _) (s₁ s₂ : AtExit (ended_of 1 state-kinds.ps state-kinds.r) κs)
    → state-reads.Post κs a r₁ s₁ → state-reads.Post κs a r₂ s₂
    → r₁ ≡ r₂
state_of_unique κs a r₁ r₂ s₁ s₂ p q = p ∙ sym q
