-- What is gathered of the eta-long form of a neutral beside what is gathered of the neutral: the type that it has is found, the one at
-- which its eta-long form stands is wanted. So of the indices of a function's domain the wanted ones stand on the left.
use Rattle.std.specs.Prelude.{ℕ, ◌≡◌, List, [], ◌∷◌, ◌++◌, length, Some}
use Rattle.clf_syntax.specs.declared.tree.Mode.{Mode}
use Rattle.clf_syntax.specs.declared.tree.Head.TheVariants.{Var}
use Rattle.clf_syntax.specs.Tree.{PlainObject, head_alone}
use Rattle.clf_syntax.specs.TypeTree.{PlainType, family, function, both, top, monad, PlainTelescope, end, binding, SimpleType, base, arrow, simple_with, simple_top, lax, SimpleTelescope, simple_end, simple_binding}
use Rattle.clf_syntax.specs.Simple.{Families, simple_modes}
use Rattle.clf_syntax.specs.Renaming.{ren_type, ren_telescope, lifted, up}
use Rattle.use_contexts.specs.Context.{Context, HasVariable, with_entries}
use Rattle.hered_subst.specs.Substitution.{single, SubstitutedType, SubstitutedTelescope}
use Rattle.eta_laws.specs.Eta.{eta}
use Rattle.pattern_laws.specs.Equations.{Equation}
use Rattle.gathering.specs.Setting.{simple_locals, Pairs}

-- At a family: an equation for each pair of indices.
pub record FamilyLong (arguments : Families) (g : Context) (f : ℕ) (a b : PlainType) (q : List Equation) : Type 0 where
  pub found : List PlainObject
  pub wanted : List PlainObject
  pub types : List SimpleType
  pub found_type : a ≡ family f found
  pub wanted_type : b ≡ family f wanted
  pub known : arguments f ≡ Some types
  pub pairs : Pairs (simple_locals g) types found wanted q

-- At a function: the eta-long form is a lambda, whose variable, of the wanted domain, is the argument in its eta-long form.
pub record FunctionLong (g : Context) (m : Mode) (d : SimpleType) (a b : PlainType) (q : List Equation)
    (Argument Result : Context → PlainType → PlainType → List Equation → Type 0) : Type 0 where
  pub found_domain : PlainType
  pub found_range : PlainType
  pub wanted_domain : PlainType
  pub wanted_range : PlainType
  pub applied_range : PlainType
  pub of_argument : List Equation
  pub of_result : List Equation
  pub found_type : a ≡ function m found_domain found_range
  pub wanted_type : b ≡ function m wanted_domain wanted_range
  pub argument : Argument ((m, wanted_domain) ∷ g) (ren_type (up 1) wanted_domain) (ren_type (up 1) found_domain) of_argument
  pub put : SubstitutedType (single (eta d (head_alone (Var 0))) 0) (ren_type (lifted 1 (up 1)) found_range) applied_range
  pub result : Result ((m, wanted_domain) ∷ g) applied_range wanted_range of_result
  pub equations : q ≡ of_argument ++ of_result

-- At a pair: the two projections, one after the other.
pub record PairLong (a b : PlainType) (q : List Equation) (Left Right : PlainType → PlainType → List Equation → Type 0) : Type 0 where
  pub found_left : PlainType
  pub found_right : PlainType
  pub wanted_left : PlainType
  pub wanted_right : PlainType
  pub of_left : List Equation
  pub of_right : List Equation
  pub found_type : a ≡ both found_left found_right
  pub wanted_type : b ≡ both wanted_left wanted_right
  pub left : Left found_left wanted_left of_left
  pub right : Right found_right wanted_right of_right
  pub equations : q ≡ of_left ++ of_right

-- At a monad: a step, and its variables as the tuple.
pub record MonadLong (g : Context) (a b : PlainType) (q : List Equation) (Entries : Context → PlainTelescope → List Equation → Type 0) (n : ℕ) : Type 0 where
  pub found : PlainTelescope
  pub wanted : PlainTelescope
  pub found_type : a ≡ monad found
  pub wanted_type : b ≡ monad wanted
  pub entries : Entries (with_entries found g) (ren_telescope (up n) wanted) q

-- An entry of that tuple: the variable i in its eta-long form.
pub record EntryLong (g : Context) (i : ℕ) (m : Mode) (t : SimpleType) (s : PlainTelescope) (q : List Equation)
    (First : PlainType → PlainType → List Equation → Type 0) (Later : PlainTelescope → List Equation → Type 0) : Type 0 where
  pub found : PlainType
  pub wanted : PlainType
  pub later_types : PlainTelescope
  pub after_put : PlainTelescope
  pub of_first : List Equation
  pub of_later : List Equation
  pub type : s ≡ binding m wanted later_types
  pub variable : HasVariable g i found
  pub first : First found wanted of_first
  pub put : SubstitutedTelescope (single (eta t (head_alone (Var i))) 0) later_types after_put
  pub later : Later after_put of_later
  pub equations : q ≡ of_first ++ of_later

abbrev mutual
  -- LongFormGathers arguments g t a b q: over the context g a neutral of the type a, in its eta-long form at the type b, gathers the equations q. Both types have the erasure t.
  pub LongFormGathers : Families → Context → SimpleType → PlainType → PlainType → List Equation → Type 0
  LongFormGathers arguments g (base f) a b q = FamilyLong arguments g f a b q
  LongFormGathers arguments g (arrow m d c) a b q = FunctionLong g m d a b q (λ k x y p. LongFormGathers arguments k d x y p) (λ k x y p. LongFormGathers arguments k c x y p)
  LongFormGathers arguments g (simple_with c d) a b q = PairLong a b q (λ x y p. LongFormGathers arguments g c x y p) (λ x y p. LongFormGathers arguments g d x y p)
  LongFormGathers arguments g simple_top a b q = (a ≡ top) × (b ≡ top) × (q ≡ [])
  LongFormGathers arguments g (lax ts) a b q = MonadLong g a b q (λ k s p. EntriesGather arguments k ts s p) (length (simple_modes ts))

  -- The newest variables, at the simple types ts, as a tuple of the telescope s.
  pub EntriesGather : Families → Context → SimpleTelescope → PlainTelescope → List Equation → Type 0
  EntriesGather arguments g simple_end s q = (s ≡ end) × (q ≡ [])
  EntriesGather arguments g (simple_binding m t ts) s q = EntryLong g (length (simple_modes ts)) m t s q (λ a b p. LongFormGathers arguments g t a b p) (λ v p. EntriesGather arguments g ts v p)
