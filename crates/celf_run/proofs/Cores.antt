-- What is known of the core of an item that comes of a text.
use Rattle.std.proofs.Common.{ℕ, ◌≡◌, ◌+◌, ◌-◌, ◌≤◌, ◌<◌, ◌^◌, Bool, true, false, nat_le, nat_lt, if◌then◌else◌, refl, sym, ap, subst, Option, Some, None, List, [], ◌∷◌, ◌++◌, length, map, arith, Contains}
use Rattle.std.proofs.lemmas.Bool.{leb-true}
use Rattle.std.proofs.Math.Nat.{min-le_left, min-le_right}
use Rattle.clf_syntax.specs.declared.tree.Mode.TheVariants.{Persistent, Affine, Linear}
use Rattle.clf_syntax.specs.TypeTree as core
use Rattle.clf_sig.specs.Entry.{PlainClass, family_of, constant_of, PlainEntry, PlainSignature, place_of, names}
use Rattle.clf_sig.specs.Core.{declares, queries, traces, checks}
use Rattle.clf_sig.proofs.Names.{is_named}
use Rattle.clf_rules.specs.WellFormed.{leading_persistent, may_be_implicit}
use Rattle.celf_surface.specs.declared.surface.Bound.{Bound}
use Rattle.celf_surface.specs.declared.surface.Bound.TheVariants.{Number, Star}
use Rattle.celf_surface.specs.Surface as written
use Rattle.celf_sugar.specs.declared.fault.SugarFault.TheVariants.{KindPlace, NotAsync, Redex, OutOfRange, BadImplicit}
use Rattle.celf_sugar.specs.PlainTree.{DesugaredType, family, function, both, top, monad, DesugaredTelescope, end, binding, DesugaredClass, of_family, of_constant, DesugaredBody, declare, query, trace, equal, check, DesugaredItem}
use Rattle.celf_sugar.specs.ClassLeading.{telescope_length, class_leading}
use Rattle.celf_sugar.specs.Earliest.{sooner, earliest}
use Rattle.celf_sugar.specs.Faults.{leading, too_many, fault_start, first_of, first_fault, kind_places_of, not_async_of, redexes_of, out_of_range_of, bad_implicits_of}
use Rattle.celf_sugar.specs.Sugar.{reading, class, implicit, body, desugared}
use Rattle.celf_sugar.proofs.LeadingLaws.{class-leads}
use Rattle.celf_places.specs.Heads.{Local, family_head, arguments_of}
use Rattle.celf_explicit.specs.Types.{at_indices, read_indices, read_type, read_telescope, kind_of}
use Rattle.celf_places.specs.SimpleTypes.{local_of}
use Rattle.celf_explicit.specs.Explicit.{read_class, entry_of, read_against, equates_both, explicit, core_of_body}
use Rattle.celf_places.proofs.Options.{option_map-some, option_and_then-some, combined-some}
use Rattle.celf_run.specs.Allowed.{declared_name}
use Rattle.celf_run.specs.Answering.{StandInFront}

-- The name of no entry is not among the names.
pub unnamed : (sig : PlainSignature) (name : List ℕ) → place_of name sig ≡ None → Contains (names sig) name → ⊥
unnamed sig name h c = let e = (is_named name sig None (sym h)).1 c in cc

-- ---- items without a fault

sooner-some : {X : Type 0} (place : X → ℕ) (x : X) (y : Option X) → sooner place (Some x) y ≡ None → ⊥
sooner-some place x None e = cc
sooner-some place x (Some y) e = go (nat_lt (place y) (place x)) e
  where
    go : (b : Bool) → (if b then Some y else Some x) ≡ None → ⊥
    go true e = cc
    go false e = cc

none-earliest : {X : Type 0} (place : X → ℕ) (xs : List X) → earliest place xs ≡ None → xs ≡ []
none-earliest place [] e = refl
none-earliest place (x ∷ xs) e = absurd (sooner-some place x (earliest place xs) e)

none-behind : {X : Type 0} (xs ys : List X) → xs ++ ys ≡ [] → ys ≡ []
none-behind [] ys e = e
none-behind (x ∷ xs) ys e = absurd (cc)

none-mapped : {X Y : Type 0} (f : X → Y) (xs : List X) → map f xs ≡ [] → xs ≡ []
none-mapped f [] e = refl
none-mapped f (x ∷ xs) e = absurd (cc)

no-bad-implicits : (b : written.WrittenBody) → first_of b ≡ None → bad_implicits_of b ≡ []
no-bad-implicits b e =
    let all = none-earliest fault_start _ e in
    let behind_kinds = none-behind (map KindPlace (kind_places_of b)) _ all in
    let behind_asyncs = none-behind (map NotAsync (not_async_of b)) _ behind_kinds in
    let behind_redexes = none-behind (map Redex (redexes_of b)) _ behind_asyncs in
    none-mapped BadImplicit (bad_implicits_of b) (none-behind (map OutOfRange (out_of_range_of b)) _ behind_redexes)

-- so many implicit arguments as are written stand in front
fits-front : (i : Option Bound) (t : written.WrittenType) → too_many i t ≡ [] → implicit i ≤ leading (reading t).as_type
fits-front None t e = omega arith
fits-front (Some Star) t e = omega arith
fits-front (Some (Number v s)) t e = go (nat_le v (leading (reading t).as_type)) refl e
  where
    go : (b : Bool) → nat_le v (leading (reading t).as_type) ≡ b → (if b then [] else s ∷ []) ≡ [] → implicit (Some (Number v s)) ≤ leading (reading t).as_type
    go true is e = omega (arith, leb-true v (leading (reading t).as_type) is, min-le_left v (2 ^ 32 - 1))
    go false is e = absurd (cc)

implicit-small : (i : Option Bound) → implicit i < 2 ^ 32
implicit-small None = omega arith
implicit-small (Some Star) = omega arith
implicit-small (Some (Number v s)) = omega (arith, min-le_right v (2 ^ 32 - 1))

-- No item of a text has 2 ^ 32 or more implicit arguments.
pub count-small : (b : written.WrittenBody) (name : List ℕ) (count : ℕ) (c : DesugaredClass) → body b ≡ declare name count c → count < 2 ^ 32
count-small (written.declare n i t) name count c e = let is : implicit i ≡ count = cc in subst (λ (k : ℕ). k < 2 ^ 32) is (implicit-small i)
count-small (written.query d e' l a t) name count c e = absurd (cc)
count-small (written.trace n t) name count c e = absurd (cc)
count-small (written.equal l r t) name count c e = absurd (cc)
count-small (written.check o t) name count c e = absurd (cc)

count-fits : (b : written.WrittenBody) (name : List ℕ) (count : ℕ) (c : DesugaredClass) → first_of b ≡ None → body b ≡ declare name count c → count ≤ class_leading c
count-fits (written.declare n i t) name count c f e =
    let is : implicit i ≡ count = cc in
    let class_is : class t ≡ c = cc in
    let front = fits-front i t (no-bad-implicits (written.declare n i t) f) in
    let leads = class-leads t in
    subst (λ (x : DesugaredClass). count ≤ class_leading x) class_is (omega (arith, is, front, leads))
count-fits (written.query d e' l a t) name count c f e = absurd (cc)
count-fits (written.trace n t) name count c f e = absurd (cc)
count-fits (written.equal l r t) name count c f e = absurd (cc)
count-fits (written.check o t) name count c f e = absurd (cc)

-- No item of a text without a fault has more implicit arguments than stand in front.
pub written-fits : (item : written.WrittenItem) → first_fault item ≡ None → StandInFront (desugared item)
written-fits item f name count c e = count-fits item.body name count c f e

-- ---- what stands in front of a type or a kind stands in front of its core

module _ (sig : PlainSignature) where
  leading-read : (ls : List Local) (t : DesugaredType) (a : core.PlainType) → read_type sig ls t ≡ Some a → leading_persistent a ≡ leading t
  leading-read ls (family s h is) a e =
      let found = option_and_then-some (at_indices sig ls is) (family_head sig h) a e in
      let made = option_map-some (core.family found.0) (read_indices sig ls (arguments_of sig found.0) is) a found.2 in
      subst (λ (x : core.PlainType). leading_persistent x ≡ 0) made.2 refl
  leading-read ls (function s Persistent n a b) x e =
      let parts = combined-some (core.function Persistent) (read_type sig ls a) (read_type sig (local_of sig n a ∷ ls) b) x e in
      subst (λ (y : core.PlainType). leading_persistent y ≡ leading b + 1) parts.4 (ap (λ (k : ℕ). k + 1) (leading-read (local_of sig n a ∷ ls) b parts.1 parts.3))
  leading-read ls (function s Affine n a b) x e =
      let parts = combined-some (core.function Affine) (read_type sig ls a) (read_type sig (local_of sig n a ∷ ls) b) x e in
      subst (λ (y : core.PlainType). leading_persistent y ≡ 0) parts.4 refl
  leading-read ls (function s Linear n a b) x e =
      let parts = combined-some (core.function Linear) (read_type sig ls a) (read_type sig (local_of sig n a ∷ ls) b) x e in
      subst (λ (y : core.PlainType). leading_persistent y ≡ 0) parts.4 refl
  leading-read ls (both s a b) x e =
      let parts = combined-some core.both (read_type sig ls a) (read_type sig ls b) x e in
      subst (λ (y : core.PlainType). leading_persistent y ≡ 0) parts.4 refl
  leading-read ls (top s) x e = let is : core.top ≡ x = cc in subst (λ (y : core.PlainType). leading_persistent y ≡ 0) is refl
  leading-read ls (monad s t) x e =
      let made = option_map-some core.monad (read_telescope sig ls t) x e in
      subst (λ (y : core.PlainType). leading_persistent y ≡ 0) made.2 refl

  length-read : (ls : List Local) (t : DesugaredTelescope) (s : core.PlainTelescope) → read_telescope sig ls t ≡ Some s → length (kind_of s) ≡ telescope_length t
  length-read ls end s e = let is : core.end ≡ s = cc in subst (λ (y : core.PlainTelescope). length (kind_of y) ≡ 0) is refl
  length-read ls (binding m n a t) s e =
      let parts = combined-some (core.binding m) (read_type sig ls a) (read_telescope sig (local_of sig n a ∷ ls) t) s e in
      let rest = length-read (local_of sig n a ∷ ls) t parts.1 parts.3 in
      subst (λ (y : core.PlainTelescope). length (kind_of y) ≡ telescope_length t + 1) parts.4 (omega (arith, rest))

  class-read : (c : DesugaredClass) (x : PlainClass) → read_class sig c ≡ Some x → may_be_implicit x ≡ class_leading c
  class-read (of_family t) x e =
      let made = option_map-some (λ s. family_of (kind_of s)) (read_telescope sig [] t) x e in
      subst (λ (y : PlainClass). may_be_implicit y ≡ telescope_length t) made.2 (length-read [] t made.0 made.1)
  class-read (of_constant a) x e =
      let made = option_map-some constant_of (read_type sig [] a) x e in
      subst (λ (y : PlainClass). may_be_implicit y ≡ leading a) made.2 (leading-read [] a made.0 made.1)

-- ---- the core of a declaration

-- what is known of a declared entry
pub record IsDeclared (sig : PlainSignature) (b : DesugaredBody) (name : List ℕ) (e : PlainEntry) : Type 0 where
  pub class : DesugaredClass
  pub says : b ≡ declare name e.implicit class
  pub leads : may_be_implicit e.class ≡ class_leading class

pub declared-read : (sig : PlainSignature) (b : DesugaredBody) (name : List ℕ) (e : PlainEntry) → core_of_body sig b ≡ Some (declares name e) → IsDeclared sig b name e
declared-read sig (declare n i c) name e h =
    let made = option_map-some (λ x. declares n (entry_of i x)) (read_class sig c) (declares name e) h in
    let name_is : n ≡ name = cc made.2 in
    let entry_is : entry_of i made.0 ≡ e = cc made.2 in
    let count_is : i ≡ e.implicit = ap (λ (x : PlainEntry). x.implicit) entry_is in
    let class_is : made.0 ≡ e.class = ap (λ (x : PlainEntry). x.class) entry_is in
    record {
      class = c;
      says = rw (name_is, count_is) refl;
      leads = subst (λ (x : PlainClass). may_be_implicit x ≡ class_leading c) class_is (class-read sig c made.0 made.1);
    }
declared-read sig (query d e' l a t) name e h = let made = option_map-some queries (read_type sig [] t) (declares name e) h in absurd (cc made.2)
declared-read sig (trace n t) name e h = let made = option_map-some traces (read_telescope sig [] t) (declares name e) h in absurd (cc made.2)
declared-read sig (equal l r t) name e h =
    let made = combined-some equates_both _ (read_type sig [] t) (declares name e) h in absurd (cc made.4)
declared-read sig (check o t) name e h =
    let made = combined-some checks (read_against sig t o) (read_type sig [] t) (declares name e) h in absurd (cc made.4)

-- A declared entry has no more implicit arguments than it can have.
pub declared-fits : (sig : PlainSignature) (item : DesugaredItem) (name : List ℕ) (e : PlainEntry) → StandInFront item → explicit sig item ≡ Some (declares name e)
    → (declared_name item.body ≡ Some name) × (e.implicit ≤ may_be_implicit e.class)
declared-fits sig item name e stand h =
    let read = declared-read sig item.body name e h in
    let count = stand name e.implicit read.class read.says in
    (ap declared_name read.says, omega (arith, count, read.leads))

-- The entry of an item of a text has fewer than 2 ^ 32 implicit arguments.
pub declared-small : (sig : PlainSignature) (item : written.WrittenItem) (name : List ℕ) (e : PlainEntry) → explicit sig (desugared item) ≡ Some (declares name e) → e.implicit < 2 ^ 32
declared-small sig item name e h = let read = declared-read sig (desugared item).body name e h in count-small item.body name e.implicit read.class read.says
