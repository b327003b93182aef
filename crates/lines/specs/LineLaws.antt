-- The line of a record, for the proof of the code: its two cases; that the places are the record's; that they lie in
-- the file.
use Rattle.std.specs.Prelude.{ℕ, ◌≤◌, ◌<◌, ◌≡◌, List, [], take, false}
use Rattle.std.proofs.Common.{sym, ◌∙◌}
use Rattle.std.proofs.Math.Path.{ap, subst}
use Rattle.std.proofs.Math.Bool.{true}
use Rattle.std.proofs.Math.ListN.{length, get_or}
use Rattle.std.proofs.Math.Seq.{take-append_seam}
use borrow.Author.Tests.{ltb-true}
use Rattle.columns.specs.ColumnLaws.{every_at}
use Rattle.job.specs.Read.{job_in}
use Rattle.job.specs.Theorems.{accepted_exactly}
use Rattle.rows.specs.declared.Positions.{Positions}
use Rattle.rows.specs.Rows.{positions_in}
use Rattle.rows.specs.Sound.{Sound}
use Rattle.rows.specs.SoundLaws.{sound_given}
use Rattle.text.specs.Text.{line_text, Placed}
use Rattle.values.specs.declared.Places.{Places}
use Rattle.values.specs.Values.{in_range, joined_places, joined_values, places_of}
use Rattle.values.specs.Theorems.{places_inside}
use Rattle.lines.specs.Lines.{JobOf, record_text}

module _ (s : List ℕ) (g : Positions) (r : List ℕ) where
  pub text_out : in_range g r ≡ false → record_text s g r ≡ []
  unfolding record_text
  text_out e = rw e

  pub text_in_lem : in_range g r ≡ true → line_text (joined_values s g r) ≡ record_text s g r
  unfolding record_text
  text_in_lem e = rw e

  -- what an accepted file's job has for running
  pub job_sound : JobOf s g → Sound g
  job_sound h = sound_given s (job_in s) g h.accepted h.positions

  -- an accepted file is no longer than a job may be
  pub job_short : JobOf s g → length s ≤ 65535
  job_short h = ((accepted_exactly s).0 h.accepted).0.length_kept.most

  -- the places that are counted are the record's
  pub line_places : (p : Places) → p ≡ places_of g r → take p.n p.at ≡ joined_places g r
  line_places p e = ap (λ (x : Places). take x.n x.at) e ∙ take-append_seam (joined_places g r) _

  -- each of them lies in the file
  pub line_placed : JobOf s g → in_range g r ≡ true → (i : ℕ) → i < length (joined_places g r)
      → Placed s (get_or (joined_places g r) i 0)
  unfolding in_range
  line_placed h =
      subst (λ (x : Positions).
      in_range x r ≡ true → (i : ℕ) → i < length (joined_places x r) → Placed s (get_or (joined_places x r) i 0))
      (sym h.positions) own
    where
      own : in_range (positions_in s) r ≡ true → (i : ℕ) → i < length (joined_places (positions_in s) r)
          → Placed s (get_or (joined_places (positions_in s) r) i 0)
      own t i u =
          let (f, k) = places_inside s r h.accepted (λ q v. ltb-true _ _ (every_at (positions_in s).k _ t q v)) i u in
          record { fourth = f; inside = k }
