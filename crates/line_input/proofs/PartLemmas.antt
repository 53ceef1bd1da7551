-- Facts on the parts of a phrase that are read.
use Rattle.std.proofs.Common.{◌≡◌, ◌++◌, List, [], Result, Ok, Err, true, false, refl, sym, ◌∙◌, ap, subst, arith}
use Rattle.line_config.specs.Error.{is_fault, is_io, is_memory}
use Rattle.line_config.specs.declared.error.ReadlineError.{ReadlineError}
use Rattle.line_config.specs.declared.error.ReadlineError.TheVariants.{Eof, Interrupted, Io, Memory}
use Rattle.line_keys.specs.Command.{Command}
use Rattle.line_keys.specs.Model.Draft.{Draft, KeepsLine, start_text}
use Rattle.line_keys.specs.Model.Drawing.{Undrawn}
use Rattle.line_keys.specs.Model.Fault.{IoLeaves}
use Rattle.line_keys.specs.Item.{Item}
use Rattle.line_keys.specs.declared.editor_state.EditorState as editors
use Rattle.line_keys.specs.declared.raw_reader.RawReader as readers
use Rattle.line_input.specs.Ruler.{grouped}
use Rattle.line_input.specs.Input.{Input}
use Rattle.line_input.specs.Keymap.{KeyState}
use Rattle.line_input.specs.Binding.{all_sure}
use Rattle.line_input.specs.Read.{Begins, Read, quiet_read}
use Rattle.line_input.specs.Reading.{Ends, Gives, OnRead, ReadsPart, StopsWithin}
use Rattle.line_input.specs.ItemShown.{asked_behind}
use Rattle.line_input.proofs.BeginLemmas.{is-there}
use Rattle.line_input.proofs.CountLemmas.{rises_stays}
use Rattle.line_input.proofs.DrawnTwiceLemmas.{frame_then}
use Rattle.line_input.proofs.DraftLemmas.{io_stays, not_io}
use Rattle.line_input.proofs.KeyFitLemmas.{false_not_true}
use Rattle.line_input.proofs.ReadingLemmas.{frame_stays, on_err_then}
use Rattle.line_input.proofs.ShownLemmas.{counts_kept}

module _ {X Y : Type 0} (e : editors.Ghosts X) (r : readers.Ghosts Y) where
  -- a part whose command begins its group
  pub part_grouped : {T : Type 0} (Comes : List Item → Read → Type 0) (from : Draft) (command : T → Command) (input : T → Input) (x : T) (editor mid new : X) (keys : KeyState) (reader reader' : Y)
      → ReadsPart e r Comes [] from (λ c d. d) command input (Ok x) editor keys reader mid reader'
      → Undrawn e mid new → KeepsLine (e.draft mid) (e.draft new) → (e.draft new).hint ≡ (e.draft mid).hint
      → e.draft new ≡ grouped (command x) (e.draft mid) → start_text (e.draft new) ≡ start_text (e.draft mid)
      → ReadsPart e r Comes [] from grouped command input (Ok x) editor keys reader new reader'
  part_grouped Comes from command input x editor mid new keys reader reader' part undrawn line hint draft start = record {
    read = record {
      items = part.read.items;
      read = part.read.read;
      cut = part.read.cut;
      comes = part.read.comes;
      command_read = part.read.command_read;
      input_read = part.read.input_read;
      begun_there = draft ∙ ap (grouped (command x)) part.read.begun_there;
      drew = counts_kept e part.read.read.shown editor mid new line.line hint undrawn.drew part.read.drew;
      hint = λ none. hint ∙ part.read.hint none;
    };
    within = tt;
    fault = tt;
    line = record { line = line.line ∙ part.line.line; saved = line.saved ∙ part.line.saved; index = line.index ∙ part.line.index };
    start = start ∙ part.start;
    redraws = rises_stays _ _ _ _ _ part.redraws undrawn.drew.redraws;
    fewer = part.fewer;
    keeps = record { frame = frame_then e editor mid new part.keeps.frame undrawn.frame; own = part.keeps.own; counts = part.keeps.counts };
    fails = record { io = tt; quiet = (part.fails.quiet.0, undrawn.failures ∙ part.fails.quiet.1) };
  }

  -- items that come to something in one way come to it in another, and are read on from the same draft
  pub part_mapped : {T : Type 0} (Comes Told : List Item → Read → Type 0) (front : List Item) (from other : Draft) (begun : Command → Draft → Draft) (command : T → Command) (input : T → Input)
      (result : Result T ReadlineError) (editor : X) (keys : KeyState) (reader : Y) (editor' : X) (reader' : Y)
      → ((items : List Item) (read : Read) → Comes items read → Told items read) → from ≡ other
      → ReadsPart e r Comes front from begun command input result editor keys reader editor' reader'
      → ReadsPart e r Told front other begun command input result editor keys reader editor' reader'
  part_mapped {T = T} Comes Told front from other begun command input result editor keys reader editor' reader' maps same part = record {
    read = mapped result part.read;
    within = on_err_then result (λ (w : StopsWithin r Comes front reader reader'). record {
      items = w.items;
      cut = w.cut;
      begins = record { rest = w.begins.rest; read = w.begins.read; comes = maps ((front ++ w.items) ++ w.begins.rest) w.begins.read w.begins.comes };
    }) part.within;
    fault = subst (λ (d : Draft). IoLeaves result (e.environment editor) (e.draft editor) d (e.draft editor')) same part.fault;
    line = part.line;
    start = part.start;
    redraws = part.redraws;
    fewer = part.fewer;
    keeps = part.keeps;
    fails = part.fails;
  }
    where
      mapped : (result : Result T ReadlineError)
          → OnRead result (λ x. Gives e r Comes front begun (command x) (input x) editor reader editor' reader') (Ends e r Comes front from editor reader editor' reader')
          → OnRead result (λ x. Gives e r Told front begun (command x) (input x) editor reader editor' reader') (Ends e r Told front other editor reader editor' reader')
      mapped (Ok x) gives = record {
        items = gives.items;
        read = gives.read;
        cut = gives.cut;
        comes = maps gives.items gives.read gives.comes;
        command_read = gives.command_read;
        input_read = gives.input_read;
        begun_there = gives.begun_there;
        drew = gives.drew;
        hint = gives.hint;
      }
      mapped (Err f) ends = λ no.
          let d = ends no in
          let l = d.1.lacks in (
            d.0,
            record {
              lacks = record {
                rest = l.rest;
                read = l.read;
                proper = l.proper;
                comes = maps ((front ++ r.rest reader) ++ l.rest) l.read l.comes;
                shown = l.shown;
                later = l.later;
                drawn = l.drawn;
                each = l.each;
              };
              empty = d.1.empty;
              draft = d.1.draft ∙ ap (λ from. asked_behind (e.environment editor) l.shown from) same;
              drew = d.1.drew;
            },
          )

  -- what was read of a part is told in another way
  pub part_retold : {T S : Type 0} (Comes : List Item → Read → Type 0) (front : List Item) (from : Draft) (begun : Command → Draft → Draft) (command : T → Command) (input : T → Input)
      (command' : S → Command) (input' : S → Input) (x : T) (y : S) (editor : X) (keys : KeyState) (reader : Y) (editor' : X) (reader' : Y)
      → command' y ≡ command x → input' y ≡ input x
      → ReadsPart e r Comes front from begun command input (Ok x) editor keys reader editor' reader'
      → ReadsPart e r Comes front from begun command' input' (Ok y) editor keys reader editor' reader'
  part_retold Comes front from begun command input command' input' x y editor keys reader editor' reader' same_command same_input part = record {
    read = record {
      items = part.read.items;
      read = part.read.read;
      cut = part.read.cut;
      comes = part.read.comes;
      command_read = part.read.command_read ∙ sym same_command;
      input_read = part.read.input_read ∙ sym same_input;
      begun_there = part.read.begun_there ∙ ap (λ c. begun c part.read.read.draft) (sym same_command);
      drew = part.read.drew;
      hint = part.read.hint;
    };
    within = tt;
    fault = tt;
    line = part.line;
    start = part.start;
    redraws = part.redraws;
    fewer = part.fewer;
    keeps = part.keeps;
    fails = record { io = tt; quiet = part.fails.quiet };
  }

  -- a failure is told in another way
  pub failure_retold : {T S : Type 0} (Comes : List Item → Read → Type 0) (front : List Item) (from : Draft) (begun begun' : Command → Draft → Draft) (command : T → Command) (input : T → Input)
      (command' : S → Command) (input' : S → Input) (f : ReadlineError) (editor : X) (keys : KeyState) (reader : Y) (editor' : X) (reader' : Y)
      → ReadsPart e r Comes front from begun command input (Err f) editor keys reader editor' reader'
      → ReadsPart e r Comes front from begun' command' input' (Err f) editor keys reader editor' reader'
  failure_retold Comes front from begun begun' command input command' input' f editor keys reader editor' reader' part = record {
    read = part.read;
    within = part.within;
    fault = part.fault;
    line = part.line;
    start = part.start;
    redraws = part.redraws;
    fewer = part.fewer;
    keeps = part.keeps;
    fails = record { io = part.fails.io; quiet = part.fails.quiet };
  }

  not_calm : {A : Type 0} (f : ReadlineError) → is_memory f ≡ true → is_fault f ≡ false → A
  not_calm Memory is calm = absurd (cc)
  not_calm Eof is calm = absurd (cc)
  not_calm Interrupted is calm = absurd (cc)
  not_calm (Io cause) is calm = absurd (cc)

  -- memory ran out behind a part that was read
  pub part_then_memory : {T S : Type 0} (Comes Told : List Item → Read → Type 0) (from from' : Draft) (begun begun' : Command → Draft → Draft) (command : T → Command) (input : T → Input)
      (command' : S → Command) (input' : S → Input) (x : T) (f : ReadlineError) (editor : X) (keys : KeyState) (reader : Y) (mid new : X) (reader' : Y)
      → ((items : List Item) (read : Read) → Comes items read → (told : Read) × Told items told)
      → is_memory f ≡ true → Undrawn e mid new → KeepsLine (e.draft mid) (e.draft new)
      → ReadsPart e r Comes [] from begun command input (Ok x) editor keys reader mid reader'
      → ReadsPart e r Told [] from' begun' command' input' (Err f) editor keys reader new reader'
  part_then_memory Comes Told from from' begun begun' command input command' input' x f editor keys reader mid new reader' tells memory undrawn line part = record {
    read = λ no. not_calm f memory no;
    within =
        let told = tells part.read.items part.read.read part.read.comes in
        record { items = part.read.items; cut = part.read.cut; begins = is-there Told part.read.items told.0 told.1 };
    fault = λ is. not_io f memory is;
    line = record { line = line.line ∙ part.line.line; saved = line.saved ∙ part.line.saved; index = line.index ∙ part.line.index };
    start = λ no. not_calm f memory no;
    redraws = λ no. not_calm f memory no;
    fewer = λ no. not_calm f memory no;
    keeps = record { frame = frame_then e editor mid new part.keeps.frame undrawn.frame; own = part.keeps.own; counts = part.keeps.counts };
    fails = record { io = λ is. not_io f memory is; quiet = λ no. (part.fails.quiet.0, undrawn.failures ∙ part.fails.quiet.1) };
  }

  -- a party that may fail was asked, and nothing was read
  pub refused_part : {T : Type 0} (Comes : List Item → Read → Type 0) (front : List Item) (from : Draft) (begun : Command → Draft → Draft) (command : T → Command) (input : T → Input)
      (f : ReadlineError) (editor : X) (keys : KeyState) (reader : Y)
      → is_fault f ≡ true → (is_io f ≡ true → all_sure keys.bound ≡ false) → Begins Comes (front ++ [])
      → ReadsPart e r Comes front from begun command input (Err f) editor keys reader editor reader
  refused_part {T = T} Comes front from begun command input f editor keys reader fault unsure begins = record {
    read = λ no. absurd (false_not_true (is_fault f) no fault);
    within = record { items = []; cut = refl; begins = begins };
    fault = io_stays {T = T} (Err f) (e.environment editor) (e.draft editor) from;
    line = record { line = refl; saved = refl; index = refl };
    start = λ no. refl;
    redraws = λ no below. (omega arith, omega arith);
    fewer = λ no. omega arith;
    keeps = record { frame = frame_stays e editor; own = refl; counts = omega arith };
    fails = record { io = λ is sure. absurd (false_not_true (all_sure keys.bound) (unsure is) sure.1); quiet = λ no. (refl, refl) };
  }

  -- memory ran out, and nothing was read
  pub memory_part : {T : Type 0} (Comes : List Item → Read → Type 0) (front : List Item) (from : Draft) (begun : Command → Draft → Draft) (command : T → Command) (input : T → Input)
      (f : ReadlineError) (editor new : X) (keys : KeyState) (reader : Y)
      → is_memory f ≡ true → Undrawn e editor new → KeepsLine (e.draft editor) (e.draft new) → Begins Comes (front ++ [])
      → ReadsPart e r Comes front from begun command input (Err f) editor keys reader new reader
  memory_part Comes front from begun command input f editor new keys reader memory undrawn line begins = record {
    read = λ no. not_calm f memory no;
    within = record { items = []; cut = refl; begins = begins };
    fault = λ is. not_io f memory is;
    line = line;
    start = λ no. not_calm f memory no;
    redraws = λ no. not_calm f memory no;
    fewer = λ no. not_calm f memory no;
    keeps = record { frame = undrawn.frame; own = refl; counts = omega arith };
    fails = record { io = λ is. not_io f memory is; quiet = λ no. (refl, undrawn.failures) };
  }

  -- a command that is the key's alone was read
  pub at_once_part : {T : Type 0} (Comes : List Item → Read → Type 0) (begun : Command → Draft → Draft) (command : T → Command) (input : T → Input) (x : T) (i : Input)
      (editor : X) (keys : KeyState) (reader : Y)
      → Comes [] (quiet_read (e.draft editor) i [] (command x)) → input x ≡ i
      → ReadsPart e r Comes [] (e.draft editor) (λ c d. d) command input (Ok x) editor keys reader editor reader
  at_once_part Comes begun command input x i editor keys reader comes same = record {
    read = record {
      items = [];
      read = quiet_read (e.draft editor) i [] (command x);
      cut = refl;
      comes = comes;
      command_read = refl;
      input_read = sym same;
      begun_there = refl;
      drew = record { display = refl; redraws = refl };
      hint = λ none. refl;
    };
    within = tt;
    fault = tt;
    line = record { line = refl; saved = refl; index = refl };
    start = refl;
    redraws = λ below. (omega arith, omega arith);
    fewer = omega arith;
    keeps = record { frame = frame_stays e editor; own = refl; counts = omega arith };
    fails = record { io = tt; quiet = (refl, refl) };
  }
