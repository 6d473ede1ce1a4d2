-- What becomes of the fillings of a reading under an environment.
use Rattle.std.specs.Prelude.{ℕ, ◌≡◌, [], ◌∷◌, length}
use Rattle.clf_syntax.specs.declared.tree.Head.{Head}
use Rattle.clf_syntax.specs.declared.tree.Head.TheVariants.{Const}
use Rattle.hered_subst.specs.Substitution.{Environment, keep, under, Substituted}
use Rattle.celf_elaboration.specs.Fillings.{Filling, Fillings}

-- The environment makes one filling the other, at the same place.
pub record FillingBecomes (s : Environment) (f g : Filling) : Type 0 where
  pub locals : f.locals ≡ g.locals
  pub type : f.type ≡ g.type
  pub object : Substituted (under (length f.locals) s) f.object g.object

-- the same of as many fillings, place by place
abbrev pub FillingsBecome : Environment → Fillings → Fillings → Type 0
FillingsBecome s [] [] = Unit {0}
FillingsBecome s (f ∷ fs) (g ∷ gs) = FillingBecomes s f g × FillingsBecome s fs gs
FillingsBecome s [] (g ∷ gs) = ⊥
FillingsBecome s (f ∷ fs) [] = ⊥

-- What a name may mean beside the locals is kept: the constants, and the heads of the implicit variables, under any binders.
pub record KeepsNamed (heads : ℕ → Head) (s : Environment) : Type 0 where
  pub constants : (c : ℕ) → s (Const c) ≡ keep (Const c)
  pub implicit : (n x : ℕ) → under n s (heads x) ≡ keep (heads x)
