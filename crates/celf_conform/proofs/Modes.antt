-- A pattern against entries, place by place.
use Rattle.std.proofs.Common.{◌≡◌, ℕ, suc, ◌+◌, ◌<◌, ◌≤◌, List, [], ◌∷◌, length, map, drop, get_or, Some, None, refl, sym, ap, ◌∙◌, add-one, arith}
use Rattle.std.proofs.Math.Seq.{drop-cons}
use Rattle.std.proofs.lemmas.List.{drop_all}
use Rattle.clf_syntax.specs.declared.tree.Mode.{Mode}
use Rattle.clf_syntax.specs.declared.tree.SimpleEntry.{SimpleEntry}
use Rattle.clf_syntax.specs.TypeTree.{SimpleType}
use Rattle.clf_syntax.specs.PlainSimple.{plain_simple_entry, simple_telescope_of, plain-simple-entry}
use Rattle.clf_syntax.specs.Simple.{simple_modes}
use Rattle.celf_conform.specs.Decision.{first_of, other_mode, first_other_mode}

abbrev pub wanted : List SimpleEntry → List Mode
wanted es = simple_modes (simple_telescope_of (map plain_simple_entry es))

pub wanted_width : (es : List SimpleEntry) → length (wanted es) ≡ length es
wanted_width [] = refl
wanted_width (e ∷ es) = ap suc (wanted_width es)

pub modes_more : (es : List SimpleEntry) (ms : List Mode) (i : ℕ) (e : SimpleEntry) (d : Mode) → i < length es → i < length ms → e ≡ get_or es i e
    → first_other_mode (wanted (drop i es)) (drop i ms) ≡ first_of (other_mode e.mode (get_or ms i d)) (first_other_mode (wanted (drop (i + 1) es)) (drop (i + 1) ms))
modes_more es ms i e d l k q = rw add-one (ap (λ ws. first_other_mode ws (drop i ms)) from_here ∙ ap (first_other_mode (e.mode ∷ wanted (drop (suc i) es))) (drop-cons ms i d k))
  where
    from_here : wanted (drop i es) ≡ e.mode ∷ wanted (drop (suc i) es)
    from_here = ap wanted (drop-cons es i e l ∙ ap (λ y. y ∷ drop (suc i) es) (sym q)) ∙ ap (λ (p : Mode × SimpleType). p.0 ∷ wanted (drop (suc i) es)) (plain-simple-entry e)

pub modes_done : (es : List SimpleEntry) (ms : List Mode) (i : ℕ) → length ms ≡ length es → length ms ≤ i → first_other_mode (wanted (drop i es)) (drop i ms) ≡ None
modes_done es ms i e l = ap (λ xs. first_other_mode (wanted xs) (drop i ms)) (drop_all i es (omega (arith, e, l)))
