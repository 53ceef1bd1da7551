-- The texts that were killed.
use Rattle.std.specs.Prelude.{◌≡◌, ◌⊎◌, ◌≤◌, ℕ, ◌+◌, ◌-◌, Bool, true, false, ◌==◌, ◌||◌, ◌&&◌, not, List, [], ◌∷◌, ◌++◌, length, slice_set, slice_index_or, Option, option_map, Some, None, is_some, if◌then◌else◌}
use Rattle.line_buffer.specs.declared.kill_ring.Mode.{Mode}
use Rattle.line_buffer.specs.declared.kill_ring.Mode.TheVariants.{Append, Prepend}

-- a kill, a yank of so many bytes, or something else
pub data LastAction : Type 0 where
  killed : LastAction
  yanked : ℕ → LastAction
  other : LastAction

-- how many slots there may be, the slots that are held, the current one, and what was done last
pub record Ring : Type 0 where
  pub size : ℕ
  pub slots : List (List ℕ)
  pub current : ℕ
  pub last : LastAction

-- the ring may have as many slots as before, and has no more
pub record KeepsSize (old new : Ring) : Type 0 where
  pub size : new.size ≡ old.size
  pub bound : length new.slots ≤ new.size

-- a ring that holds nothing
abbrev pub empty_ring : ℕ → Ring
empty_ring size = record { size = size; slots = []; current = 0; last = other }

-- the ring after another last action
abbrev pub with_last : Ring → LastAction → Ring
with_last r last = record { size = r.size; slots = r.slots; current = r.current; last = last }

-- the text of the current slot
abbrev pub current_text : Ring → List ℕ
current_text r = slice_index_or r.slots r.current []

-- the slot after the current one: 0 on an empty ring, and after the last that there may be
abbrev pub next_slot : Ring → ℕ
next_slot r = if (length r.slots == 0) || (r.current + 1 == r.size) then 0 else r.current + 1

-- the slots with a text in one of them, or in a new last one
abbrev pub with_slot : ℕ → List ℕ → List (List ℕ) → List (List ℕ)
with_slot slot text slots = if slot == length slots then slots ++ text ∷ [] else slice_set slots slot text

-- the ring with a text in a slot, which becomes the current one
abbrev pub with_current : Ring → ℕ → List ℕ → Ring
with_current r slot text = record { size = r.size; slots = with_slot slot text r.slots; current = slot; last = r.last }

-- a text that joins another at its end or at its front
abbrev pub joined : Mode → List ℕ → List ℕ → List ℕ
joined Append text more = text ++ more
joined Prepend text more = more ++ text

-- the ring with another text in its current slot
abbrev pub with_current_text : Ring → List ℕ → Ring
with_current_text r text = record { size = r.size; slots = slice_set r.slots r.current text; current = r.current; last = r.last }

-- the text joins that of the current slot
abbrev pub with_joined : Ring → List ℕ → Mode → Ring
with_joined r text mode =
    record { size = r.size; slots = slice_set r.slots r.current (joined mode (current_text r) text); current = r.current; last = killed }

-- the text takes the next slot, which becomes the current one
abbrev pub with_next : Ring → List ℕ → Ring
with_next r text = record { size = r.size; slots = with_slot (next_slot r) text r.slots; current = next_slot r; last = killed }

-- what a kill leaves of a ring that finds no memory: what it was, but that a kill was done last; or the ring that it leaves else
abbrev pub LeavesRing : Ring → Ring → Ring → Type 0
LeavesRing before left ring = (ring ≡ with_last before killed) ⊎ (ring ≡ left)

-- whether the last action was a kill
abbrev pub is_kill : LastAction → Bool
is_kill killed = true
is_kill (yanked _) = false
is_kill other = false

-- a text was killed: after a kill it joins the current slot, else it takes the next one; a ring without slots keeps nothing
abbrev pub after_kill : Ring → List ℕ → Mode → Ring
after_kill r text mode =
    if r.size == 0 then with_last r killed
    else if is_kill r.last && not (length r.slots == 0) then with_joined r text mode
    else with_next r text

-- a text was killed that the ring keeps by a mode, if there is one
abbrev pub with_kept : Ring → List ℕ → Option Mode → Ring
with_kept r text None = r
with_kept r text (Some mode) = after_kill r text mode

-- the text that is yanked: the current slot's, if one is held
abbrev pub yanked_text : Ring → Option (List ℕ)
yanked_text r = if length r.slots == 0 then None else Some (current_text r)

-- the ring after a yank
abbrev pub after_yank : Ring → Ring
after_yank r = if length r.slots == 0 then r else with_last r (yanked (length (current_text r)))

-- the ring one slot back, from the first to the last that is held
abbrev pub back_one : Ring → Ring
back_one r = record { size = r.size; slots = r.slots; current = if r.current == 0 then length r.slots - 1 else r.current - 1; last = r.last }

-- the bytes of the last yank, if that was the last action
abbrev pub last_yank : LastAction → Option ℕ
last_yank killed = None
last_yank (yanked size) = Some size
last_yank other = None

-- what a yank-pop answers, the bytes of the yank before: none where that was not the last action, or nothing is held
abbrev pub yank_pop_size : Ring → Option ℕ
yank_pop_size r = if length r.slots == 0 then None else last_yank r.last

-- the ring after a yank-pop
abbrev pub after_yank_pop : Ring → Ring
after_yank_pop r = if is_some (yank_pop_size r) then after_yank (back_one r) else r

-- what a yank-pop returns: the bytes of the yank before, and the text one slot back
abbrev pub yank_popped : Ring → Option (ℕ × List ℕ)
yank_popped r = option_map (λ size. (size, current_text (back_one r))) (yank_pop_size r)
