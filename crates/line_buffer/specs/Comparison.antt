-- What comparing two values says of them, and which values are defaults.
use Rattle.std.specs.Prelude.{◌≡◌, ◌<◌, ◌↔◌, ◌⊎◌, Bool, true}
use Rattle.std.specs.declared.clone.Clone as clone
use Rattle.std.specs.declared.cmp.Ordering.{Ordering}
use Rattle.std.specs.declared.cmp.Ordering.TheVariants.{Less}
use Rattle.line_buffer.specs.declared.layout.Position.{Position}

-- two values are equal just where what is seen of them is the same
abbrev pub IsSamenessOf : {T V : Type 0} → (T → V) → (T → T → Bool) → Type 0
IsSamenessOf {T} seen equal = (one other : T) → (equal one other ≡ true) ↔ (seen one ≡ seen other)

-- two values are equal just where they are the same
abbrev pub IsSameness : {T : Type 0} → (T → T → Bool) → Type 0
IsSameness = IsSamenessOf (λ one. one)

-- a clone never fails, and is the value that it is made from
abbrev pub ClonesAreSame : {T : Type 0} → clone.Ghosts T → Type 0
ClonesAreSame {T} cloning =
    (one : T) → cloning.is_infallible one × ((copy : T) → cloning.is_clone one copy → copy ≡ one)

-- this value is the default, and no other is
abbrev pub IsOnlyDefault : {T : Type 0} → (T → Type 0) → T → Type 0
IsOnlyDefault {T} is_default value = (one : T) → is_default one ↔ (one ≡ value)

-- one screen position is before another where its row is above, or in the same row its column is left
abbrev pub IsReadingOrder : (Position → Position → Ordering) → Type 0
IsReadingOrder compare = (one other : Position)
    → (compare one other ≡ Less) ↔ ((one.row < other.row) ⊎ ((one.row ≡ other.row) × (one.col < other.col)))
