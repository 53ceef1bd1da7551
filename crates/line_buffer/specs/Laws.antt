-- Laws over the definitions.
use Rattle.std.specs.Prelude.{◌≡◌, ℕ, ◌+◌, ◌<◌, ◌≤◌, Bool, true, List, [], ◌∷◌, ◌++◌, length, slice_set, reverse, unwrap_or, ◌-◌, Some}
use Rattle.std.specs.Fn.{iterate}
use Rattle.std.specs.List.{list_all}
use Rattle.line_buffer.specs.Changes.{Changes, Entry, begun, ended}
use Rattle.line_buffer.specs.Cluster.{clusters, place_back, place_on}
use Rattle.line_buffer.specs.KillRing.{Ring, after_kill, after_yank, after_yank_pop, current_text, joined, killed, other, with_last, yanked_text}
use Rattle.line_buffer.specs.Line.{Line, before, after}
use Rattle.line_buffer.specs.Lines.{last_fitting}
use Rattle.line_buffer.specs.Undo.{GroupsFit, NoGroupOpen, is_change, TellsOf, after_undo, all_taken_back}
use Rattle.line_buffer.specs.Word.{begins_word, bytes_to, edges, kinds_of, nth, word_back, word_edge, word_on}
use Rattle.line_buffer.specs.declared.movement.At.{At}
use Rattle.line_buffer.specs.declared.movement.Word.{Word}
use Rattle.line_buffer.specs.declared.kill_ring.Mode.{Mode}

-- entries that record how a text came from another restore that one when all are taken back
abbrev pub TakingAllBack : Type 0
TakingAllBack = (entries : List Entry) (l : Line) (start : List ℕ) → TellsOf entries l.text start → (all_taken_back entries l).text ≡ start

-- where no group is open, so many steps at once are as many single steps, and no group is open after them
abbrev pub UndoingStepByStep : Type 0
UndoingStepByStep = (entries : List Entry) (l : Line) (n : ℕ) → NoGroupOpen entries → 0 < n
    → (after_undo n (entries, l) ≡ iterate (after_undo 1) n (entries, l)) × NoGroupOpen (after_undo n (entries, l)).0

-- the ring holds no more than its slots, and its current slot is one that it holds
abbrev pub IsRing : Ring → Type 0
IsRing r = (length r.slots ≤ r.size) × (0 < length r.slots → r.current < length r.slots)

-- after a reset, what is killed is what is yanked
abbrev pub KilledIsYanked : Type 0
KilledIsYanked = (r : Ring) (text : List ℕ) (mode : Mode) → IsRing r → 0 < r.size → yanked_text (after_kill (with_last r other) text mode) ≡ Some text

-- the ring after kills in a row
abbrev pub after_kills : Ring → List (List ℕ × Mode) → Ring
after_kills r [] = r
after_kills r (kill ∷ more) = after_kills (after_kill r kill.0 kill.1) more

-- their texts in one, each at the end or at the front of those before it
abbrev pub all_joined : List ℕ → List (List ℕ × Mode) → List ℕ
all_joined text [] = text
all_joined text (kill ∷ more) = all_joined (joined kill.1 text kill.0) more

-- kills in a row leave their texts in one slot, and the others as they were
abbrev pub KillsInARowShareASlot : Type 0
KillsInARowShareASlot = (r : Ring) (more : List (List ℕ × Mode)) → IsRing r → 0 < length r.slots → r.last ≡ killed
    → after_kills r more ≡ record { size = r.size; slots = slice_set r.slots r.current (all_joined (current_text r) more); current = r.current; last = killed }

-- so after a reset a yank returns all of them
abbrev pub KillsInARowAreYanked : Type 0
KillsInARowAreYanked = (r : Ring) (text : List ℕ) (mode : Mode) (more : List (List ℕ × Mode)) → IsRing r → 0 < r.size
    → yanked_text (after_kills (after_kill (with_last r other) text mode) more) ≡ Some (all_joined text more)

-- as many yank-pops as slots are held come round to the slot that they began at
abbrev pub YankPopsComeRound : Type 0
YankPopsComeRound = (r : Ring) → IsRing r → iterate after_yank_pop (length r.slots) (after_yank r) ≡ after_yank r

-- a group with an entry of text, begun where none was open and closed, is one step
abbrev pub ClosedGroupIsOneStep : Type 0
ClosedGroupIsOneStep = (c : Changes) (inside : List Entry) (l : Line) → c.open_groups ≡ 0 → 0 < length inside → list_all is_change inside ≡ true
    → after_undo 1 ((ended (record (begun c) { entries = inside ++ (begun c).entries })).entries, l) ≡ (c.entries, all_taken_back inside l)

-- the last number that passes is not past the bound, no number after it passes, and it passes unless it is 0
abbrev pub LastFittingIsLast : Type 0
LastFittingIsLast = (passes : ℕ → Bool) (m : ℕ) →
    (last_fitting passes m ≤ m)
    × ((i : ℕ) → i ≤ m → passes i ≡ true → i ≤ last_fitting passes m)
    × (0 < last_fitting passes m → passes (last_fitting passes m) ≡ true)

-- a place by clusters or words is this edge of the clusters on that side of the cursor
abbrev pub PlacesAreBetweenClusters : Type 0
PlacesAreBetweenClusters = (l : Line) (n place : ℕ) →
    let front = clusters (before l) in
    let back = clusters (after l) in
    (place_on l n ≡ Some place → place ≡ l.cursor + bytes_to back n)
    × (place_back l n ≡ Some place → place ≡ bytes_to front (length front - n))
    × ((word : Word) → word_back word l n ≡ Some place → place ≡ bytes_to front (unwrap_or (nth (reverse (edges begins_word (kinds_of word front))) n) 0))
    × ((at : At) (word : Word) → word_on at word l n ≡ Some place → (i : ℕ) × (word_edge at word back n ≡ Some i) × (place ≡ l.cursor + bytes_to back i))

-- where groups fit and their count is 0, no group is open
abbrev pub NoneCountedNoneOpen : Type 0
NoneCountedNoneOpen = (c : Changes) → GroupsFit c → c.open_groups ≡ 0 → NoGroupOpen c.entries
