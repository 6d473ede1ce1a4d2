-- Heads under binders: the scope with more variables.
use Rattle.std.specs.Prelude.{ℕ, zero, suc, ◌≡◌, List, [], ◌∷◌, refl}
use Rattle.std.proofs.Common.{ap, ◌∙◌}
use Rattle.clf_syntax.specs.declared.tree.Head.{Head}
use Rattle.clf_syntax.specs.declared.tree.Head.TheVariants.{Const, Var, Meta}
use Rattle.clf_syntax.specs.TypeTree.{SimpleType, SimpleTelescope, simple_end, simple_binding}
use Rattle.clf_syntax.specs.Simple.{assigned, extended, extended_by}
use Rattle.clf_syntax.proofs.RenamingLaws.{ext}
use Rattle.clf_simple.specs.Decision.{behind}
use Rattle.celf_conform.specs.Known.{PlainKnown, heads_in}

pub next_scope : (k : PlainKnown) (d : SimpleType) (g : List SimpleType) → heads_in k (d ∷ g) ≡ extended d (heads_in k g)
next_scope k d g = ext (λ h. at_head h)
  where
    at_head : (h : Head) → heads_in k (d ∷ g) h ≡ extended d (heads_in k g) h
    at_head (Const c) = refl
    at_head (Meta m) = refl
    at_head (Var zero) = refl
    at_head (Var (suc i)) = refl

pub behind_scope : (k : PlainKnown) (s : SimpleTelescope) (g : List SimpleType) → heads_in k (behind s g) ≡ extended_by s (heads_in k g)
behind_scope k simple_end g = refl
behind_scope k (simple_binding m t s) g = behind_scope k s (t ∷ g) ∙ ap (extended_by s) (next_scope k t g)

-- the same of lists in which families have a type
next_assigned : (cs ms : List SimpleType) (d : SimpleType) (g : List SimpleType) → assigned cs ms (d ∷ g) ≡ extended d (assigned cs ms g)
next_assigned cs ms d g = ext (λ h. at_head h)
  where
    at_head : (h : Head) → assigned cs ms (d ∷ g) h ≡ extended d (assigned cs ms g) h
    at_head (Const c) = refl
    at_head (Meta m) = refl
    at_head (Var zero) = refl
    at_head (Var (suc i)) = refl

pub behind_assigned : (cs ms : List SimpleType) (s : SimpleTelescope) (g : List SimpleType) → assigned cs ms (behind s g) ≡ extended_by s (assigned cs ms g)
behind_assigned cs ms simple_end g = refl
behind_assigned cs ms (simple_binding m t s) g = behind_assigned cs ms s (t ∷ g) ∙ ap (extended_by s) (next_assigned cs ms t g)
