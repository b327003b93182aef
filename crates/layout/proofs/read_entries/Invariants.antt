-- `layout::read_entries` is its definition. The loop's invariant: what is left of the definition gives what the whole does, and
-- the running end is inside the file.
use Rattle.std.proofs.Common.{◌≡◌, length, ◌≤◌, ◌+◌, ◌-◌, ◌*◌}
use Rattle.layout.specs.Contents.{entries_from}
use Rattle.layout.specs.File.{no_entries}
use Rattle.layout.proofs.read_entries.Given as goal

abbrev pub invariant-loop-i : goal.invariant-loop-i
invariant-loop-i l =
    (entries_from l.s l.k l.plan (l.k - l.i) l.i l.end l.entries ≡ entries_from l.s l.k l.plan l.k 0 (12 + 16 * l.k) no_entries)
    × (l.end ≤ length l.s)
    × (length l.entries ≡ 8)
