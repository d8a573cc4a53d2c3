-- A debug line.
use Rattle.std.proofs.Common.{◌≡◌, ℕ, ◌+◌, List, [], ◌∷◌, ◌++◌, length, Ok, sym, ap, ◌∙◌}
use Rattle.request_states.specs.Values.{null}
use Rattle.apex_num.specs.declared.kind.LimitKind.TheVariants.{Alloc}
use Rattle.save_meaning.specs.Sites.{Site}
use Rattle.txn_heap.specs.declared.thing.Value.{Value}
use Rattle.value_texts.specs.Texts.{text_of}
use Rattle.stack_code.specs.Machine.{next, with_line}
use Rattle.stack_code.specs.Things.{print_next}
use Rattle.stack_code.specs.declared.image.Image.{Image}
use Rattle.stack_code.specs.declared.state.Config.{Config}
use Rattle.program_things.specs.Steps.{ChargesText}
use Rattle.program_things.proofs.Charged.{behind_paid}

-- behind the charge of its text the line stands behind the others
pub line_said : (site : Site) (image : Image) (v : Value) (c e : Config) (made : List ℕ) (debug : List (List ℕ)) → ChargesText (text_of site.schema image.names c.world.heap v) c (Ok made) e → debug ≡ e.world.debug ++ made ∷ [] →
    print_next site image v c c.top.stack ≡ next (record e { world = record (e.world) { debug = debug } }) (null ∷ e.top.stack)
line_said site image v c e made debug h is =
    behind_paid Alloc (16 + length (text_of site.schema image.names c.world.heap v)) c e (λ d. next (with_line d (text_of site.schema image.names d.world.heap v)) (null ∷ c.top.stack)) h.1
    ∙ ap (λ heap. next (with_line e (text_of site.schema image.names heap v)) (null ∷ c.top.stack)) (ap (λ (x : Config). x.world.heap) h.1.1)
    ∙ ap (λ t. next (with_line e t) (null ∷ c.top.stack)) (sym h.0)
    ∙ ap (λ d. next (record e { world = record (e.world) { debug = d } }) (null ∷ c.top.stack)) (sym is)
    ∙ ap (λ stack. next (record e { world = record (e.world) { debug = debug } }) (null ∷ stack)) (sym (ap (λ (x : Config). x.top.stack) h.1.1))
