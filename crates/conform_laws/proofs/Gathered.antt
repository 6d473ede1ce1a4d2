-- Of types, telescopes, kinds and cores that conform to simple types something is gathered.
use Rattle.std.proofs.Common.{subst, sym}
use Rattle.std.specs.Option.{option_map}
use Rattle.std.specs.Prelude.{List, None, Option, Some, [], map, refl, true, ℕ, ◌++◌, ◌∷◌, ◌≡◌}
use Rattle.clf_syntax.specs.Simple.{Assignment, SimplyFormed, SimplyFormedContext, SimplyFormedKind, SimplyFormedTelescope, SimplyTyped, SimplyTypedEach, erase, extended, extended_over}
use Rattle.clf_syntax.specs.Tree.{PlainObject}
use Rattle.clf_syntax.specs.TypeTree.{PlainKind, PlainTelescope, PlainType, SimpleType, binding, both, end, family, function, monad, top}
use Rattle.clf_syntax.specs.declared.tree.Mode.TheVariants.{Persistent}
use Rattle.use_contexts.specs.Context.{Context}
use Rattle.hered_subst.proofs.TypedEnvironments.{put_is_typed}
use Rattle.hered_subst.proofs.TypedResults.{typed_has_result}
use Rattle.hered_subst.specs.Laws.{inserted}
use Rattle.hered_subst.specs.Substitution.{SubstitutedKind, single}
use Rattle.clf_sig.specs.Core.{PlainCore, checks, declares, equates, queries, traces}
use Rattle.clf_sig.specs.Entry.{PlainClass, PlainSignature, constant_of, family_kind, family_of}
use Rattle.pattern_laws.specs.Equations.{Equation}
use Rattle.pattern_laws.specs.Instantiations.{Types}
use Rattle.typing_laws.proofs.FormedTypes.{as_inserted}
use Rattle.typing_laws.specs.SimpleTyping.{families_of}
use Rattle.gathering.proofs.Conforming.{conforms_gathers, conforms_typed}
use Rattle.gathering.proofs.FormedInstances.{put_kind}
use Rattle.gathering.specs.Conform.{Conforms}
use Rattle.gathering.specs.Gather.{Gathers}
use Rattle.gathering.specs.Instances.{FormedKinds, FormedSetting}
use Rattle.gathering.specs.Items.{IndicesGather, KindGathers, TelescopeGathers, TypeGathers}
use Rattle.gathering.specs.Setting.{Setting}
use Rattle.gathering.specs.Shape.{Shape, unmarked_shape}
use Rattle.elaboration_laws.specs.ItemSetting.{item_setting}
use Rattle.celf_elaboration.specs.Items.{ClassGathers, CoreGathers}
use Rattle.celf_conform.specs.Fits.{ClassFits, CoreFits, EachFits, Fits, KindFits, TelescopeFits, TypeFits}
use Rattle.conform_laws.proofs.FitsConforms.{IsKnown, fits_conforms, known_next}
use Rattle.conform_laws.proofs.Shapes.{simple_shape, unmarked_is_simple}

of_families : (x : Option PlainKind) (ts : List SimpleType) → option_map (map erase) x ≡ Some ts → (k : PlainKind) × (x ≡ Some k) × (map erase k ≡ ts)
of_families None ts e = absurd (cc)
of_families (Some k) ts e = (k, refl, cc)

module _ (sig : PlainSignature) (xs : List PlainType) (metas : Types) (formed : FormedSetting (item_setting sig xs metas)) (kinds : FormedKinds sig (item_setting sig xs metas)) where
  abbrev item : Setting
  item = item_setting sig xs metas

  abbrev Z : Context → Assignment
  Z g = extended_over g item.simple

  abbrev Formed : Context → Type 0
  Formed g = SimplyFormedContext (families_of sig) item.simple g

  at_written : (w : List Shape) (b : Assignment) (n : PlainObject) (a : PlainType) → IsKnown item w b → Fits b n (erase a) → Conforms item w b n (erase a) (unmarked_shape a)
  at_written w b n a k p = subst (λ (o : Shape). Conforms item w b n (erase a) o) (sym (unmarked_is_simple a)) (fits_conforms item refl (λ i. refl) (λ c. refl) n w b (erase a) k p)

  object_typed : (w : List Shape) (b : Assignment) (n : PlainObject) (t : SimpleType) → IsKnown item w b → Fits b n t → SimplyTyped b n t
  object_typed w b n t k p = conforms_typed item n w b t (simple_shape t) (fits_conforms item refl (λ i. refl) (λ c. refl) n w b t k p)

  object_gathers : (g : Context) (w : List Shape) (n : PlainObject) (a : PlainType) → Formed g → IsKnown item w (Z g) → SimplyFormed (families_of sig) (Z g) a → Fits (Z g) n (erase a)
      → (q : List Equation) × Gathers item g w n a (unmarked_shape a) q
  object_gathers g w n a f k d p = conforms_gathers item formed (λ i. refl) (λ i. refl) n g w a (erase a) (unmarked_shape a) f d refl (at_written w (Z g) n a k p)

  next : (g : Context) (w : List Shape) (a : PlainType) → IsKnown item w (Z g) → IsKnown item (unmarked_shape a ∷ w) (extended (erase a) (Z g))
  next g w a k = subst (λ (o : Shape). IsKnown item (o ∷ w) (extended (erase a) (Z g))) (sym (unmarked_is_simple a)) (known_next item w (Z g) (erase a) k)

  each_typed : (w : List Shape) (b : Assignment) (ns : List PlainObject) (ts : List SimpleType) → IsKnown item w b → EachFits b ns ts → SimplyTypedEach b ns ts
  each_typed w b [] [] k p = tt
  each_typed w b (n ∷ ns) (t ∷ ts) k p = (object_typed w b n t k p.0, each_typed w b ns ts k p.1)
  each_typed w b [] (t ∷ ts) k p = absurd p
  each_typed w b (n ∷ ns) [] k p = absurd p

  put_there : (g : Context) (n : PlainObject) (t : SimpleType) → SimplyTyped (Z g) n t → (k : PlainKind) → SimplyFormedKind (families_of sig) (extended t (Z g)) k
      → (l : PlainKind) × SubstitutedKind (single n 0) k l × SimplyFormedKind (families_of sig) (Z g) l
  put_there g n t p k f = (typed_has_result true (families_of sig) (inserted 0 t (Z g)) (Z g) (single n 0) ((put_is_typed true (Z g)).0 0 n t p)).kind k
      (subst (λ (b : Assignment). SimplyFormedKind (families_of sig) b k) (sym (as_inserted t (Z g))) f)

  indices_gather : (ns : List PlainObject) (g : Context) (w : List Shape) (k : PlainKind) → Formed g → IsKnown item w (Z g) → SimplyFormedKind (families_of sig) (Z g) k → EachFits (Z g) ns (map erase k)
      → (q : List Equation) × IndicesGather sig item g w ns k q
  indices_gather [] g w [] f b d p = ([], refl)
  indices_gather [] g w (a ∷ k) f b d p = absurd p
  indices_gather (n ∷ ns) g w [] f b d p = absurd p
  indices_gather (n ∷ ns) g w (a ∷ k) f b d p =
      let (q1, x) = object_gathers g w n a f b d.0 p.0 in
      let (l, s, d') = put_there g n (erase a) (object_typed w (Z g) n (erase a) b p.0) k d.1 in
      let (q2, y) = indices_gather ns g w l f b d' (subst (λ ts. EachFits (Z g) ns ts) (sym (put_kind s)) p.1) in
      (q1 ++ q2, record { after_put = l; of_index = q1; of_later = q2; index = x; put = s; later = y; equations = refl })

  family_gathers : (g : Context) (w : List Shape) (f : ℕ) (ns : List PlainObject) → Formed g → IsKnown item w (Z g) → TypeFits (families_of sig) (Z g) (family f ns)
      → (q : List Equation) × TypeGathers sig item g w (family f ns) q
  family_gathers g w f ns c b p = let (ts, e, x) = p in let (k, i, j) = of_families (family_kind sig f) ts e in
      let (q, y) = indices_gather ns g w k c b ((kinds f k i).formed g) (subst (λ ts. EachFits (Z g) ns ts) (sym j) x) in (q, (k, i, y))

  mutual
    -- what conforms is simply formed
    type_formed : (a : PlainType) (g : Context) (w : List Shape) → IsKnown item w (Z g) → TypeFits (families_of sig) (Z g) a → SimplyFormed (families_of sig) (Z g) a
    type_formed (family f ns) g w k p = (p.0, p.1, each_typed w (Z g) ns p.0 k p.2)
    type_formed (function m a c) g w k p = (type_formed a g w k p.0, type_formed c ((m, a) ∷ g) (unmarked_shape a ∷ w) (next g w a k) p.1)
    type_formed (both a c) g w k p = (type_formed a g w k p.0, type_formed c g w k p.1)
    type_formed top g w k p = tt
    type_formed (monad s) g w k p = telescope_formed s g w k p

    telescope_formed : (s : PlainTelescope) (g : Context) (w : List Shape) → IsKnown item w (Z g) → TelescopeFits (families_of sig) (Z g) s → SimplyFormedTelescope (families_of sig) (Z g) s
    telescope_formed end g w k p = tt
    telescope_formed (binding m a s) g w k p = (type_formed a g w k p.0, telescope_formed s ((m, a) ∷ g) (unmarked_shape a ∷ w) (next g w a k) p.1)

  mutual
    type_gathers : (a : PlainType) (g : Context) (w : List Shape) → Formed g → IsKnown item w (Z g) → TypeFits (families_of sig) (Z g) a → (q : List Equation) × TypeGathers sig item g w a q
    type_gathers (family f ns) g w d k p = family_gathers g w f ns d k p
    type_gathers (function m a c) g w d k p =
        let (q1, x) = type_gathers a g w d k p.0 in
        let (q2, y) = type_gathers c ((m, a) ∷ g) (unmarked_shape a ∷ w) (type_formed a g w k p.0, d) (next g w a k) p.1 in
        (q1 ++ q2, record { of_first = q1; of_second = q2; first = x; second = y; equations = refl })
    type_gathers (both a c) g w d k p =
        let (q1, x) = type_gathers a g w d k p.0 in let (q2, y) = type_gathers c g w d k p.1 in
        (q1 ++ q2, record { of_first = q1; of_second = q2; first = x; second = y; equations = refl })
    type_gathers top g w d k p = ([], refl)
    type_gathers (monad s) g w d k p = telescope_gathers s g w d k p

    telescope_gathers : (s : PlainTelescope) (g : Context) (w : List Shape) → Formed g → IsKnown item w (Z g) → TelescopeFits (families_of sig) (Z g) s
        → (q : List Equation) × TelescopeGathers sig item g w s q
    telescope_gathers end g w d k p = ([], refl)
    telescope_gathers (binding m a s) g w d k p =
        let (q1, x) = type_gathers a g w d k p.0 in
        let (q2, y) = telescope_gathers s ((m, a) ∷ g) (unmarked_shape a ∷ w) (type_formed a g w k p.0, d) (next g w a k) p.1 in
        (q1 ++ q2, record { of_first = q1; of_second = q2; first = x; second = y; equations = refl })

  kind_gathers : (l : PlainKind) (g : Context) (w : List Shape) → Formed g → IsKnown item w (Z g) → KindFits (families_of sig) (Z g) l → (q : List Equation) × KindGathers sig item g w l q
  kind_gathers [] g w d k p = ([], refl)
  kind_gathers (a ∷ l) g w d k p =
      let (q1, x) = type_gathers a g w d k p.0 in
      let (q2, y) = kind_gathers l ((Persistent, a) ∷ g) (unmarked_shape a ∷ w) (type_formed a g w k p.0, d) (next g w a k) p.1 in
      (q1 ++ q2, record { of_first = q1; of_second = q2; first = x; second = y; equations = refl })

  module _ (known : IsKnown item [] item.simple) where
    class_gathers : (c : PlainClass) → ClassFits (families_of sig) item.simple c → (q : List Equation) × ClassGathers sig item c q
    class_gathers (family_of l) p = kind_gathers l [] [] tt known p
    class_gathers (constant_of a) p = type_gathers a [] [] tt known p

    pub core_gathers : (c : PlainCore) → CoreFits (families_of sig) item.simple c → (q : List Equation) × CoreGathers sig item c q
    core_gathers (declares name e) p = class_gathers e.class p
    core_gathers (queries a) p = type_gathers a [] [] tt known p
    core_gathers (traces s) p = telescope_gathers s [] [] tt known p
    core_gathers (equates m n a) p =
        let (q1, x) = type_gathers a [] [] tt known p.0 in let d = type_formed a [] [] known p.0 in
        let (q2, y) = object_gathers [] [] m a tt known d p.1 in let (q3, z) = object_gathers [] [] n a tt known d p.2 in
        (q1 ++ (q2 ++ q3), record { of_first = q1; of_second = q2 ++ q3; first = x; second = record { of_first = q2; of_second = q3; first = y; second = z; equations = refl }; equations = refl })
    core_gathers (checks n a) p =
        let (q1, x) = type_gathers a [] [] tt known p.0 in let (q2, y) = object_gathers [] [] n a tt known (type_formed a [] [] known p.0) p.1 in
        (q1 ++ q2, record { of_first = q1; of_second = q2; first = x; second = y; equations = refl })
