-- Facts on bindings as a map.
use Rattle.std.proofs.Common.{◌≡◌, List, [], ◌∷◌, ◌++◌, Bool, true, false, cond, ◌&&◌, ◌||◌, if◌then◌else◌, Option, Some, None, refl, sym, ◌∙◌, ap, Bor, map, option_map, find, Result, Ok, Err, IfOk, OnOk}
use Rattle.std.specs.List.{list_all, list_any, starts_with}
use Rattle.std.specs.Cmp.Lexicographic.{pointwise}
use Rattle.std.specs.Option.{option_or}
use Rattle.line_keys.specs.declared.keys.KeyEvent.{KeyEvent}
use Rattle.line_input.specs.Event.{Chord, each_key, event_keys, keys, mouse, same_chord, same_key}
use Rattle.line_input.specs.Binding.{Bound, Handler, Rebinds, all_sure, bound_to, handler_of, leads_on, node_count}
use Rattle.line_input.specs.KeyTree.{Puts, beginning_count, value_of}
use Rattle.line_input.specs.Keymap.{key_handler}
use Rattle.line_input.specs.declared.binding.EventHandler.{EventHandler}

false_and : (a b : Bool) → a ≡ false → (a && b) ≡ false
false_and true b off = absurd (cc)
false_and false b off = refl

and_false : (a b : Bool) → b ≡ false → (a && b) ≡ false
and_false true b off = off
and_false false b off = refl

unsure_by : (binding : Chord × Handler) (bound : Bound) (chord : Chord) (handler : Handler) (here : Bool)
    → option_map (λ x. x.1) (cond here (Some binding) (find (λ x. same_chord x.0 chord) bound)) ≡ Some handler → handler.sure ≡ false
    → (handler_of bound chord ≡ Some handler → all_sure bound ≡ false) → all_sure (binding ∷ bound) ≡ false
unsure_by binding bound chord handler true is unsure there =
    let same : binding.1 ≡ handler = cc in false_and binding.1.sure (all_sure bound) (ap (λ (h : Handler). h.sure) same ∙ unsure)
unsure_by binding bound chord handler false is unsure there = and_false binding.1.sure (all_sure bound) (there is)

-- a handler that may fail is among those of a map that does not answer for all
pub among_unsure : (bound : Bound) (chord : Chord) (handler : Handler) → handler_of bound chord ≡ Some handler → handler.sure ≡ false → all_sure bound ≡ false
among_unsure [] chord handler is unsure = absurd (cc)
among_unsure (binding ∷ bound) chord handler is unsure =
    unsure_by binding bound chord handler (same_chord binding.0 chord) is unsure (λ there. among_unsure bound chord handler there unsure)

key_by : (bound : Bound) (handler : Handler) (own : Option Handler) (key : KeyEvent) → handler_of bound (keys (key ∷ [])) ≡ own
    → option_or own (handler_of bound each_key) ≡ Some handler → handler.sure ≡ false → all_sure bound ≡ false
key_by bound handler (Some own) key at is unsure = among_unsure bound (keys (key ∷ [])) handler (at ∙ is) unsure
key_by bound handler None key at is unsure = among_unsure bound each_key handler is unsure

-- so is the handler of a key
pub key_unsure : (bound : Bound) (key : KeyEvent) (handler : Handler) → key_handler bound key ≡ Some handler → handler.sure ≡ false → all_sure bound ≡ false
key_unsure bound key handler is unsure = key_by bound handler (handler_of bound (keys (key ∷ []))) key refl is unsure

and-is : (a b : Bool) → a ≡ true → b ≡ true → (a && b) ≡ true
and-is true b one two = two
and-is false b one two = absurd (cc)

and-are : (a b : Bool) → (a && b) ≡ true → (a ≡ true) × (b ≡ true)
and-are true b both = (refl, both)
and-are false b both = absurd (cc)

map-if : {A B : Type 0} (f : A → B) (b : Bool) (x : A) (o : Option A) → option_map f (if b then Some x else o) ≡ (if b then Some (f x) else option_map f o)
map-if f true x o = refl
map-if f false x o = refl

module _ {C : Type 0} (value : EventHandler C → Handler) where
  -- what is bound to each key, to the mouse and to sequences
  abbrev pub bound-by : Option (EventHandler C) → Option (EventHandler C) → List (List KeyEvent × EventHandler C) → Bound
  bound-by any click entries = bound_to value each_key any ++ bound_to value mouse click ++ map (λ entry. (keys entry.0, value entry.1)) entries

  -- a handler that is lent
  pub shown : (lent : Option (Bor (EventHandler C))) (own : Option (EventHandler C)) → option_map (λ handler. handler.now) lent ≡ own → option_map (λ handler. value handler.now) lent ≡ option_map value own
  shown None own is = ap (option_map value) is
  shown (Some handler) own is = ap (option_map value) is

  find-keys-by : (same : Bool) (entry : List KeyEvent × EventHandler C) (bound : Option (Chord × Handler)) (held : Option (List KeyEvent × EventHandler C))
      → option_map (λ (b : Chord × Handler). b.1) bound ≡ option_map value (option_map (λ (e : List KeyEvent × EventHandler C). e.1) held)
      → option_map (λ (b : Chord × Handler). b.1) (cond same (Some (keys entry.0, value entry.1)) bound) ≡ option_map value (option_map (λ (e : List KeyEvent × EventHandler C). e.1) (cond same (Some entry) held))
  find-keys-by true entry bound held is = refl
  find-keys-by false entry bound held is = is

  find-keys : (entries : List (List KeyEvent × EventHandler C)) (sequence : List KeyEvent)
      → handler_of (map (λ entry. (keys entry.0, value entry.1)) entries) (keys sequence) ≡ option_map value (value_of entries sequence)
  find-keys [] sequence = refl
  find-keys (entry ∷ entries) sequence =
      find-keys-by (pointwise same_key entry.0 sequence) entry (find (λ b. same_chord b.0 (keys sequence)) (map (λ entry. (keys entry.0, value entry.1)) entries))
      (find (λ e. pointwise same_key e.0 sequence) entries) (find-keys entries sequence)

  find-each : (entries : List (List KeyEvent × EventHandler C)) → handler_of (map (λ entry. (keys entry.0, value entry.1)) entries) each_key ≡ None
  find-each [] = refl
  find-each (entry ∷ entries) = find-each entries

  find-mouse : (entries : List (List KeyEvent × EventHandler C)) → handler_of (map (λ entry. (keys entry.0, value entry.1)) entries) mouse ≡ None
  find-mouse [] = refl
  find-mouse (entry ∷ entries) = find-mouse entries

  -- the handler of each event
  pub each-handler : (any click : Option (EventHandler C)) (entries : List (List KeyEvent × EventHandler C)) → handler_of (bound-by any click entries) each_key ≡ option_map value any
  each-handler (Some handler) click entries = refl
  each-handler None (Some handler) entries = find-each entries
  each-handler None None entries = find-each entries

  pub mouse-handler : (any click : Option (EventHandler C)) (entries : List (List KeyEvent × EventHandler C)) → handler_of (bound-by any click entries) mouse ≡ option_map value click
  mouse-handler (Some other) (Some handler) entries = refl
  mouse-handler (Some other) None entries = find-mouse entries
  mouse-handler None (Some handler) entries = refl
  mouse-handler None None entries = find-mouse entries

  pub keys-handler : (any click : Option (EventHandler C)) (entries : List (List KeyEvent × EventHandler C)) (sequence : List KeyEvent) → handler_of (bound-by any click entries) (keys sequence) ≡ option_map value (value_of entries sequence)
  keys-handler (Some other) (Some handler) entries sequence = find-keys entries sequence
  keys-handler (Some other) None entries sequence = find-keys entries sequence
  keys-handler None (Some handler) entries sequence = find-keys entries sequence
  keys-handler None None entries sequence = find-keys entries sequence

  keys-lead : (entries : List (List KeyEvent × EventHandler C)) (front : List KeyEvent)
      → leads_on (map (λ entry. (keys entry.0, value entry.1)) entries) front ≡ list_any (λ entry. starts_with same_key entry.0 front) entries
  keys-lead [] front = refl
  keys-lead (entry ∷ entries) front = ap (λ b. starts_with same_key entry.0 front || b) (keys-lead entries front)

  -- the keys that begin a bound sequence
  pub fronts : (any click : Option (EventHandler C)) (entries : List (List KeyEvent × EventHandler C)) (front : List KeyEvent)
      → leads_on (bound-by any click entries) front ≡ list_any (λ entry. starts_with same_key entry.0 front) entries
  fronts (Some other) (Some handler) entries front = keys-lead entries front
  fronts (Some other) None entries front = keys-lead entries front
  fronts None (Some handler) entries front = keys-lead entries front
  fronts None None entries front = keys-lead entries front

  keys-listed : (entries : List (List KeyEvent × EventHandler C))
      → map (λ (binding : Chord × Handler). event_keys binding.0) (map (λ (entry : List KeyEvent × EventHandler C). (keys entry.0, value entry.1)) entries) ≡ map (λ (entry : List KeyEvent × EventHandler C). entry.0) entries
  keys-listed [] = refl
  keys-listed (entry ∷ entries) = ap (λ l. entry.0 ∷ l) (keys-listed entries)

  -- the beginnings of the bound sequences
  pub fronts-counted : (any click : Option (EventHandler C)) (entries : List (List KeyEvent × EventHandler C)) → node_count (bound-by any click entries) ≡ beginning_count (map (λ (entry : List KeyEvent × EventHandler C). entry.0) entries)
  fronts-counted (Some other) (Some handler) entries = ap beginning_count (keys-listed entries)
  fronts-counted (Some other) None entries = ap beginning_count (keys-listed entries)
  fronts-counted None (Some handler) entries = ap beginning_count (keys-listed entries)
  fronts-counted None None entries = ap beginning_count (keys-listed entries)

  keys-sure : (entries : List (List KeyEvent × EventHandler C)) → all_sure (map (λ entry. (keys entry.0, value entry.1)) entries) ≡ list_all (λ entry. (value entry.1).sure) entries
  keys-sure [] = refl
  keys-sure (entry ∷ entries) = ap (λ b. (value entry.1).sure && b) (keys-sure entries)

  -- whether a handler is sure, where there is one
  abbrev own_sure : Option (EventHandler C) → Bool
  own_sure None = true
  own_sure (Some handler) = (value handler).sure

  sure-parts : (any click : Option (EventHandler C)) (entries : List (List KeyEvent × EventHandler C))
      → all_sure (bound-by any click entries) ≡ (own_sure any && (own_sure click && list_all (λ entry. (value entry.1).sure) entries))
  sure-parts (Some other) (Some handler) entries = ap (λ b. (value other).sure && ((value handler).sure && b)) (keys-sure entries)
  sure-parts (Some other) None entries = ap (λ b. (value other).sure && b) (keys-sure entries)
  sure-parts None (Some handler) entries = ap (λ b. (value handler).sure && b) (keys-sure entries)
  sure-parts None None entries = keys-sure entries

  module _ (any click : Option (EventHandler C)) (entries : List (List KeyEvent × EventHandler C)) (handler : EventHandler C) where
    all-of : all_sure (bound-by any click entries) ≡ true → (own_sure any ≡ true) × (own_sure click ≡ true) × (list_all (λ entry. (value entry.1).sure) entries ≡ true)
    all-of all =
        let first = and-are (own_sure any) (own_sure click && list_all (λ entry. (value entry.1).sure) entries) (sym (sure-parts any click entries) ∙ all) in
        let second = and-are (own_sure click) (list_all (λ entry. (value entry.1).sure) entries) first.1 in
        (first.0, second.0, second.1)

    module _ (after : List (List KeyEvent × EventHandler C)) (sequence : List KeyEvent) (puts : Puts entries after sequence handler) where
      keys-anew : (other : Chord) → handler_of (bound-by any click after) other ≡ (if same_chord (keys sequence) other then Some (value handler) else handler_of (bound-by any click entries) other)
      keys-anew each_key = each-handler any click after ∙ sym (each-handler any click entries)
      keys-anew (keys other) =
          keys-handler any click after other ∙ ap (option_map value) (puts.values other)
          ∙ map-if value (pointwise same_key sequence other) handler (value_of entries other)
          ∙ ap (λ o. if pointwise same_key sequence other then Some (value handler) else o) (sym (keys-handler any click entries other))
      keys-anew mouse = mouse-handler any click after ∙ sym (mouse-handler any click entries)

      pub rebinds-keys : Rebinds (bound-by any click entries) (bound-by any click after) (keys sequence) (value handler)
      rebinds-keys = record {
        handlers = keys-anew;
        sure = λ all sure. sure-parts any click after ∙ and-is (own_sure any) (own_sure click && list_all (λ entry. (value entry.1).sure) after) (all-of all).0
            (and-is (own_sure click) (list_all (λ entry. (value entry.1).sure) after) (all-of all).1 (puts.all (λ h. (value h).sure) (all-of all).2 sure));
      }

-- what holds where a call succeeds
pub on-ok : {T E : Type 0} {P Q : Type 0} (result : Result T E) → (P → Q) → OnOk result P → OnOk result Q
on-ok (Ok value) so holds = so holds
on-ok (Err error) so holds = tt

pub if-ok : {T E : Type 0} {P Q : T → Type 0} (result : Result T E) → ((value : T) → P value → Q value) → IfOk result P → IfOk result Q
if-ok (Ok value) so holds = so value holds
if-ok (Err error) so holds = tt
