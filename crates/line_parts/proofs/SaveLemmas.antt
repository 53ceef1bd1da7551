-- What a writer holds, with a text that waits to be written.
use Rattle.std.proofs.Common.{◌≡◌, ℕ, ◌+◌, ◌-◌, ◌<◌, ◌≤◌, Bool, true, false, List, [], ◌∷◌, ◌++◌, length, drop, get_or, Option, None, Some, ap, sym, ◌∙◌, refl, append_assoc, append-nil}
use Rattle.std.specs.Io.KnownBytes.{Appends, append_known, Keeps}
use Rattle.std.proofs.lemmas.List.{drop_more, drop_all}
use Rattle.line_parts.specs.History.{FiledHistory}
use Rattle.line_parts.specs.EscapedLine.{escaped_line}
use Rattle.line_parts.specs.HistoryText.{header, to_save, written}
use Rattle.line_parts.specs.declared.escaped_line.Escapes.{Escapes}

-- so much was written or waits to be, and these lines are left
pub record Written (escapes : Escapes) (start now : Option (List ℕ)) (lines : List (List ℕ)) (first index : ℕ) : Type 0 where
  pub done : List ℕ
  pub appends : Appends start now done
  pub rest : done ++ written escapes (drop index lines) ≡ written escapes (drop first lines)

appends-none : (start : Option (List ℕ)) → Appends start start []
appends-none None = tt
appends-none (Some xs) = sym (append-nil xs)

appends-more : (start known : Option (List ℕ)) (text new done line : List ℕ) → Appends start (append_known known text) done → new ≡ text ++ line → Appends start (append_known known new) (done ++ line)
appends-more None known text new done line h e = tt
appends-more (Some xs) None text new done line h e = h
appends-more (Some xs) (Some ys) text new done line h e = rw (e, ← append_assoc ys text line, h) (append_assoc xs done line)

appends-out : (start known new : Option (List ℕ)) (text emptied done : List ℕ) → Appends start (append_known known text) done → Appends known new text → emptied ≡ [] → Appends start (append_known new emptied) done
appends-out None known new text emptied done h out e = tt
appends-out (Some xs) None new text emptied done h out e = absurd h
appends-out (Some xs) (Some ys) None text emptied done h out e = out
appends-out (Some xs) (Some ys) (Some zs) text emptied done h out e = rw (e, append-nil zs, out) h

pub written_none : (escapes : Escapes) (start : Option (List ℕ)) (lines : List (List ℕ)) (first : ℕ) → Written escapes start start lines first first
written_none escapes start lines first = record { done = []; appends = appends-none start; rest = refl }

pub written_more : (escapes : Escapes) (start known : Option (List ℕ)) (text between new line : List ℕ) (lines : List (List ℕ)) (first index : ℕ) → index < length lines → line ≡ get_or lines index [] → Written escapes start (append_known known text) lines first index → between ≡ text ++ escaped_line escapes line → new ≡ between ++ 10 ∷ [] → Written escapes start (append_known known new) lines first (index + 1)
written_more escapes start known text between new line lines first index lt is w e f = record {
  done = w.done ++ (escaped_line escapes line ++ 10 ∷ []);
  appends = appends-more start known text new w.done (escaped_line escapes line ++ 10 ∷ []) w.appends (f ∙ ap (λ t. t ++ 10 ∷ []) e ∙ append_assoc text (escaped_line escapes line) (10 ∷ []));
  rest = append_assoc w.done (escaped_line escapes line ++ 10 ∷ []) (written escapes (drop (index + 1) lines))
      ∙ ap (λ bs. w.done ++ bs) (rw (drop_more lines index [] lt, is) refl) ∙ w.rest;
}

pub written_out : (escapes : Escapes) (start known out : Option (List ℕ)) (text emptied : List ℕ) (lines : List (List ℕ)) (first index : ℕ) → Written escapes start (append_known known text) lines first index → Appends known out text → emptied ≡ [] → Written escapes start (append_known out emptied) lines first index
written_out escapes start known out text emptied lines first index w wrote e = record {
  done = w.done;
  appends = appends-out start known out text emptied w.done w.appends wrote e;
  rest = w.rest;
}

pub written_all : (escapes : Escapes) (start now : Option (List ℕ)) (lines : List (List ℕ)) (first index : ℕ) → length lines ≤ index → Written escapes start now lines first index → Appends start now (written escapes (drop first lines))
written_all escapes start now lines first index le w =
    rw (← w.rest, drop_all index lines le, append-nil w.done) w.appends

pub saved_text : (start held out flushed : Option (List ℕ)) (before waits part whole : List ℕ) → Appends (append_known start before) (append_known held waits) part → Appends held out waits → Keeps out flushed → before ++ part ≡ whole → Appends start flushed whole
saved_text None held out flushed before waits part whole h k s e = tt
saved_text (Some xs) None out flushed before waits part whole h k s e = absurd h
saved_text (Some xs) (Some ys) None flushed before waits part whole h k s e = absurd k
saved_text (Some xs) (Some ys) (Some zs) None before waits part whole h k s e = absurd s
saved_text (Some xs) (Some ys) (Some zs) (Some ws) before waits part whole h k s e =
    s ∙ k ∙ h ∙ append_assoc xs before part ∙ ap (λ t. xs ++ t) e

drop_zero : {X : Type 0} (xs : List X) → drop 0 xs ≡ xs
drop_zero [] = refl
drop_zero (x ∷ xs) = refl

pub saved_whole : (escapes : Escapes) (append : Bool) (h : FiledHistory) (before : List ℕ) (first : ℕ) → append ≡ false → before ≡ header escapes ++ 10 ∷ [] → first ≡ 0 → before ++ written escapes (drop first h.lines) ≡ to_save escapes append h
saved_whole escapes append h before first e f g = rw (e, f, g, drop_zero h.lines) (append_assoc (header escapes) (10 ∷ []) (written escapes h.lines))

pub saved_new : (escapes : Escapes) (append : Bool) (h : FiledHistory) (before : List ℕ) (first : ℕ) → append ≡ true → before ≡ [] → first ≡ length h.lines - h.new_lines → before ++ written escapes (drop first h.lines) ≡ to_save escapes append h
saved_new escapes append h before first e f g = rw (e, f, g) refl
