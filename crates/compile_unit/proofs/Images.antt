-- The parts of an image are those of its program.
use Rattle.std.proofs.Common.{◌≡◌, ℕ, List, Option, map, ap, ◌∙◌}
use Rattle.apex_meaning.specs.Firings.{listings}
use Rattle.save_firings.specs.declared.table.Listing.{Listing}
use Rattle.stack_code.specs.Code.{block_code}
use Rattle.stack_code.specs.Images.{block_of, classes_from, code, image_of}
use Rattle.stack_code.specs.declared.image.ClassCode.{ClassCode}
use Rattle.stack_code.specs.declared.image.Code.{Code}
use Rattle.stack_code.specs.declared.image.Image.{Image}
use Rattle.typed_program.specs.declared.program.Program.{Program}
use Rattle.typed_program.specs.declared.unit.TypedClass.{TypedClass}
use Rattle.typed_program.specs.declared.unit.TypedTrigger.{TypedTrigger}

abbrev image_with : List (List ℕ) → List ClassCode → List Code → List Listing → List (Option Code) → Image
image_with names classes triggers firings blocks = record { names = names; classes = classes; triggers = triggers; firings = firings; blocks = blocks }

-- a layout is of the program
pub image_is : (program layout : Program) (names : List (List ℕ)) (classes : List ClassCode) (triggers : List Code) (firings : List Listing) (blocks : List (Option Code)) →
    layout ≡ program →
    names ≡ map (λ (k : TypedClass). k.name) program.classes →
    classes ≡ classes_from layout 0 layout.classes →
    triggers ≡ map (λ (t : TypedTrigger). code (block_code layout t.body)) program.triggers →
    firings ≡ listings program →
    blocks ≡ map (block_of layout) program.blocks →
    image_with names classes triggers firings blocks ≡ image_of program
image_is program layout names classes triggers firings blocks e a b d f g =
    let b1 = b ∙ ap (λ p. classes_from p 0 p.classes) e in
    let d1 = d ∙ ap (λ p. map (λ (t : TypedTrigger). code (block_code p t.body)) program.triggers) e in
    let g1 = g ∙ ap (λ p. map (block_of p) program.blocks) e in
    ap (λ x. image_with x classes triggers firings blocks) a
    ∙ ap (λ x. image_with (map (λ (k : TypedClass). k.name) program.classes) x triggers firings blocks) b1
    ∙ ap (λ x. image_with (map (λ (k : TypedClass). k.name) program.classes) (classes_from program 0 program.classes) x firings blocks) d1
    ∙ ap (λ x. image_with (map (λ (k : TypedClass). k.name) program.classes) (classes_from program 0 program.classes) (map (λ (t : TypedTrigger). code (block_code program t.body)) program.triggers) x blocks) f
    ∙ ap (λ x. image_with (map (λ (k : TypedClass). k.name) program.classes) (classes_from program 0 program.classes) (map (λ (t : TypedTrigger). code (block_code program t.body)) program.triggers) (listings program) x) g1
