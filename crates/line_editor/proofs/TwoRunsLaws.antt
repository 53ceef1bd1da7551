-- Two runs over two renderers.
use Rattle.std.proofs.Common.{◌≡◌, ℕ, List, sym, ap, ◌∙◌, subst}
use Rattle.line_buffer.specs.KillRing.{Ring}
use Rattle.line_buffer.specs.declared.layout.GraphemeClusterMode.{GraphemeClusterMode}
use Rattle.line_buffer.specs.declared.layout.Position.{Position}
use Rattle.line_parts.specs.Environment.{Environment}
use Rattle.line_keys.specs.Model.Draft.{Draft, hinted}
use Rattle.line_keys.specs.Item.{Item}
use Rattle.line_keys.specs.declared.editor_state.EditorState as editors
use Rattle.line_keys.specs.declared.raw_reader.RawReader as readers
use Rattle.line_editor.specs.Editor.{Editor}
use Rattle.line_input.specs.Ruler.{Ruler, own_ruler}
use Rattle.line_input.specs.Input.{Input}
use Rattle.line_input.specs.Keymap.{Keymap, keymap_of}
use Rattle.line_editor.specs.Laws.{TwoRenderers}
use Rattle.line_editor.specs.Run.{Run}
use Rattle.line_editor.specs.Outcomes.{editor_of}
use Rattle.line_editor.proofs.RunLaws.{runs-fit}

-- a run is one from what is the same
run-from : (keymap keymap' : Keymap) (ruler ruler' : Ruler) (environment environment' : Environment) (draft draft' : Draft) (kills kills' : Ring) (input input' : Input) (items items' : List Item)
    → {last : Editor} {i : Input} {end : _}
    → keymap ≡ keymap' → ruler ≡ ruler' → environment ≡ environment' → draft ≡ draft' → kills ≡ kills' → input ≡ input' → items ≡ items'
    → Run keymap' ruler' environment' (record { draft = hinted environment' draft'; kills = kills' }) input' items' last i end
    → Run keymap ruler environment (record { draft = hinted environment draft; kills = kills }) input items last i end
run-from keymap keymap' ruler ruler' environment environment' draft draft' kills kills' input input' items items' {last} {i} {end} k r w d n p t run =
    let P : Keymap → Type 0 = λ x. Run x ruler' environment' (record { draft = hinted environment' draft'; kills = kills' }) input' items' last i end in
    let Q : Ruler → Type 0 = λ x. Run keymap x environment' (record { draft = hinted environment' draft'; kills = kills' }) input' items' last i end in
    let R : Environment → Type 0 = λ x. Run keymap ruler x (record { draft = hinted x draft'; kills = kills' }) input' items' last i end in
    let S : Draft → Type 0 = λ x. Run keymap ruler environment (record { draft = hinted environment x; kills = kills' }) input' items' last i end in
    let V : Ring → Type 0 = λ x. Run keymap ruler environment (record { draft = hinted environment draft; kills = x }) input' items' last i end in
    let T : Input → Type 0 = λ x. Run keymap ruler environment (record { draft = hinted environment draft; kills = kills }) x items' last i end in
    let U : List Item → Type 0 = λ x. Run keymap ruler environment (record { draft = hinted environment draft; kills = kills }) input x last i end in
    subst U (sym t) (subst T (sym p) (subst V (sym n) (subst S (sym d) (subst R (sym w) (subst Q (sym r) (subst P (sym k) run))))))

-- runs that start alike leave the same
pub two-renderers : {X Y X' Y' : Type 0} (e : editors.Ghosts X) (r : readers.Ghosts Y) (e' : editors.Ghosts X') (r' : readers.Ghosts Y') → TwoRenderers e r e' r'
two-renderers e r e' r' indent one one' other other' end end' alike run run' =
    let f : ℕ → Ruler = λ n. record { prompt_column = n; cluster_mode = (e.display one.state).surface.mode; indent_size = indent } in
    let h : GraphemeClusterMode → Ruler = λ m. record { prompt_column = (e'.display other.state).prompt_end.col; cluster_mode = m; indent_size = indent } in
    let ruler : own_ruler (e.display one.state) indent ≡ own_ruler (e'.display other.state) indent =
    ap f (ap (λ (p : Position). p.col) alike.prompt_end) ∙ ap h alike.mode in
    runs-fit (keymap_of one.keys (r.own_binding (r.kept one.reader))) (own_ruler (e.display one.state) indent) (e.environment one.state)
    (record { draft = hinted (e.environment one.state) (e.draft one.state); kills = one.kills }) (editor_of e one'.state one'.kills) (editor_of e' other'.state other'.kills)
    one.keys.input one'.keys.input other'.keys.input (r.rest one.reader) end end' run
    (run-from _ _ _ _ _ _ (e.draft one.state) (e'.draft other.state) one.kills other.kills _ _ _ _ alike.keymap ruler alike.environment alike.draft alike.kills alike.input_value alike.items run')
