-- Facts on reading bound sequences.
use Rattle.std.proofs.Common.{arith, ◌≡◌, ◌≤◌, ◌++◌, append_assoc, true, false, List, [], ◌∷◌, length, map, Some, None, sym, ◌∙◌, ap}
use Rattle.std.specs.Prelude.{slice_get}
use Rattle.std.proofs.lemmas.List.{map-append}
use Rattle.line_keys.specs.Command.{Command}
use Rattle.line_keys.specs.Item.{key}
use Rattle.line_keys.specs.declared.keys.KeyEvent.{KeyEvent}
use Rattle.line_keys.specs.declared.raw_reader.RawReader as readers
use Rattle.line_input.specs.Reading.{EndsInSequence, IsAnswered, IsInVain, StopsInSequence}
use Rattle.line_input.specs.Sequence.{IsReadOn, Sequences, sequence_command}
use Rattle.line_input.proofs.SequenceLemmas.{is_sequence, none_read, read_further}

module _ {Y : Type 0} (r : readers.Ghosts Y) (s : Sequences) (first : KeyEvent) (reader : Y) where
  -- the keys that were read so far lead on and have no command
  pub record InSequence (typed : List KeyEvent) (now : Y) : Type 0 where
    pub more : List KeyEvent
    pub is : typed ≡ first ∷ more
    pub cut : r.rest reader ≡ map key more ++ r.rest now
    pub read_on : IsReadOn s first more
    pub leads : s.leads (first ∷ more) ≡ true
    pub unanswered : sequence_command s first more ≡ None
    pub own : r.kept now ≡ r.kept reader
    pub quiet : r.failures now ≡ r.failures reader
    pub fewer : length (r.rest now) ≤ length (r.rest reader)

  module _ (typed : List KeyEvent) (now next : Y) (k : KeyEvent) (i : InSequence typed now) (took : r.rest now ≡ key k ∷ r.rest next) where
    abbrev further : List KeyEvent
    further = i.more ++ (k ∷ [])

    cut_further : r.rest reader ≡ map key further ++ r.rest next
    cut_further = i.cut ∙ ap (λ t. map key i.more ++ t) took ∙ sym (append_assoc (map key i.more) (key k ∷ []) (r.rest next))
        ∙ sym (ap (λ t. t ++ r.rest next) (map-append key i.more (k ∷ [])))

    pub typed_further : typed ++ (k ∷ []) ≡ first ∷ further
    typed_further = ap (λ t. t ++ (k ∷ [])) i.is

    on_further : IsReadOn s first further
    on_further = read_further s first i.more k i.read_on i.leads i.unanswered

    fewer_further : length (r.rest next) ≤ length (r.rest now)
    fewer_further = let e = ap length took in let whole : length (r.rest now) ≡ length (key k ∷ r.rest next) = e in omega (arith, whole)

    -- the keys with one more have a command
    pub answered : (command : Command) → Some command ≡ s.command (typed ++ (k ∷ [])) → IsAnswered r reader next s first command
    answered command is = record {
      more = further;
      cut = cut_further;
      sequenced = record {
        read_on = on_further;
        ends = is_sequence s first i.more k ∙ ap s.command (sym typed_further) ∙ sym is;
      };
    }

    -- reading stops behind the key
    pub stops_further : StopsInSequence r reader next s first
    stops_further = record { more = further; cut = cut_further; read_on = on_further }

    none_further : None ≡ s.command (typed ++ (k ∷ [])) → sequence_command s first further ≡ None
    none_further is = is_sequence s first i.more k ∙ ap s.command (sym typed_further) ∙ sym is

    -- they have none, and do not lead on
    pub in_vain : None ≡ s.command (typed ++ (k ∷ [])) → false ≡ s.leads (typed ++ (k ∷ []))
        → IsInVain r reader next s first (slice_get (typed ++ (k ∷ [])) 1)
    in_vain is leads = record {
      more = further;
      cut = cut_further;
      sequenced = record { read_on = on_further; ends = (none_further is, ap s.leads (sym typed_further) ∙ sym leads) };
      told = ap (λ t. slice_get t 1) typed_further;
    }

    -- they have none, and lead on
    pub leads_further : (own : r.kept next ≡ r.kept now) → r.failures next ≡ r.failures now
        → None ≡ s.command (typed ++ (k ∷ [])) → true ≡ s.leads (typed ++ (k ∷ [])) → InSequence (typed ++ (k ∷ [])) next
    leads_further own quiet is leads = record {
      more = further;
      is = typed_further;
      cut = cut_further;
      read_on = on_further;
      leads = ap s.leads (sym typed_further) ∙ sym leads;
      unanswered = none_further is;
      own = own ∙ i.own;
      quiet = quiet ∙ i.quiet;
      fewer = omega (arith, fewer_further, i.fewer);
    }

  -- reading stops behind the first key, or behind those so far
  pub stops_first : (next : Y) → r.rest next ≡ r.rest reader → StopsInSequence r reader next s first
  stops_first next kept = record { more = []; cut = sym kept; read_on = none_read s first }

  pub stops_inside : (typed : List KeyEvent) (now next : Y) → InSequence typed now → r.rest next ≡ r.rest now → StopsInSequence r reader next s first
  stops_inside typed now next i kept = record { more = i.more; cut = i.cut ∙ ap (λ t. map key i.more ++ t) (sym kept); read_on = i.read_on }

  -- no item is left behind them
  pub ends_inside : (typed : List KeyEvent) (now next : Y) → InSequence typed now → r.rest now ≡ [] → r.rest next ≡ [] → EndsInSequence r reader next s first
  ends_inside typed now next i empty left = record {
    stopped = record { more = i.more; cut = i.cut ∙ ap (λ t. map key i.more ++ t) (empty ∙ sym left); read_on = i.read_on };
    empty = left;
    leads = i.leads;
    unanswered = i.unanswered;
  }
