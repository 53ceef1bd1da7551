-- What a kill takes from the line, and what it leaves.
use Rattle.std.specs.Prelude.{◌≡◌, ℕ, List, Result, ◌≤◌, length, IfOk, OnOk, OnErr, Option, Some, None, option_map, slice_range, String, string_bytes}
use Rattle.line_buffer.specs.Changes.{Changes, with_entries, with_delete}
use Rattle.line_buffer.specs.KillRing.{LeavesRing, Ring, with_kept}
use Rattle.line_buffer.specs.Line.{Line}
use Rattle.line_buffer.specs.Range.{range_of, unless_empty}
use Rattle.line_buffer.specs.Word.{or_else}
use Rattle.line_buffer.specs.declared.movement.CharSearch.TheVariants as Search
use Rattle.line_buffer.specs.declared.movement.Movement.{Movement}
use Rattle.line_buffer.specs.declared.movement.Movement.TheVariants.{WholeLine, BeginningOfLine, EndOfLine, BackwardWord, ViCharSearch, BackwardChar, ForwardChar, BeginningOfBuffer}
use Rattle.line_buffer.specs.declared.kill_ring.Mode.{Mode}
use Rattle.line_buffer.specs.declared.kill_ring.Mode.TheVariants.{Append, Prepend}
use Rattle.line_buffer.specs.declared.line_buffer.Direction.{Direction}
use Rattle.line_buffer.specs.declared.line_buffer.Direction.TheVariants.{Forward, Backward}

-- the range that a kill takes where that of the movement is empty: the cluster after or before the cursor
abbrev pub neighbour_of : Line → Movement → Option (ℕ × ℕ)
neighbour_of l WholeLine = range_of l (ForwardChar 1)
neighbour_of l EndOfLine = range_of l (ForwardChar 1)
neighbour_of l BeginningOfLine = range_of l (BackwardChar 1)
neighbour_of l _ = None

-- the range that a kill takes
abbrev pub killed_range : Line → Movement → Option (ℕ × ℕ)
killed_range l m = or_else (unless_empty (range_of l m)) (neighbour_of l m)

-- on which side of the cursor a movement leads
abbrev pub direction_of : Movement → Direction
direction_of (BackwardWord _ _) = Backward
direction_of (BackwardChar _) = Backward
direction_of BeginningOfLine = Backward
direction_of BeginningOfBuffer = Backward
direction_of (ViCharSearch _ (Search.Backward _)) = Backward
direction_of (ViCharSearch _ (Search.BackwardAfter _)) = Backward
direction_of _ = Forward

-- where a text joins those killed just before
abbrev pub mode_of : Direction → Mode
mode_of Forward = Append
mode_of Backward = Prepend

-- where what a movement spans joins the kill ring; single clusters do not go there
abbrev pub ring_mode : Movement → Option Mode
ring_mode (BackwardChar _) = None
ring_mode (ForwardChar _) = None
ring_mode m = Some (mode_of (direction_of m))

-- the place, the text and the side of what is removed with a range
abbrev pub kill_answer : Line → Movement → Option (ℕ × ℕ) → Option (ℕ × List ℕ × Direction)
kill_answer l m range = option_map (λ r. (r.0, slice_range l.text r.0 r.1, direction_of m)) range

-- the changes once a range of the line was removed
abbrev pub with_killed : Line → Option (ℕ × ℕ) → Changes → Changes
with_killed l None c = c
with_killed l (Some r) c = with_entries c (with_delete r.0 (slice_range l.text r.0 r.1) c.entries)

-- the ring once a range of the line was removed by a movement
abbrev pub ring_with_killed : Line → Movement → Option (ℕ × ℕ) → Ring → Ring
ring_with_killed l m None ring = ring
ring_with_killed l m (Some r) ring = with_kept ring (slice_range l.text r.0 r.1) (ring_mode m)

-- what a call answers of these three
abbrev pub in_bytes : {Z : Type 0} → ℕ × String Z × Direction → ℕ × List ℕ × Direction
in_bytes answer = (answer.0, string_bytes answer.1, answer.2)

-- a kill by a movement, which takes a range: what it answers, and what the ring keeps; after an error the ring has no more than its
-- slots, and is the one from before but for its last action, or the one that the kill leaves
pub record Kills {E Z : Type 0} (result : Result (Option (ℕ × String Z × Direction)) E) (l : Line) (m : Movement) (range : Option (ℕ × ℕ)) (old new : Ring) : Type 0 where
  pub answer : IfOk result (λ r. option_map in_bytes r ≡ kill_answer l m range)
  pub ring : OnOk result (new ≡ ring_with_killed l m range old)
  pub size : new.size ≡ old.size
  pub bound : OnErr result (length new.slots ≤ new.size)
  pub err : OnErr result (LeavesRing old (ring_with_killed l m range old) new)
