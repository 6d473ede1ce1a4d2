-- Elaborations of a declared type solve what is gathered of its tree, and are instances of the core.
use Rattle.std.proofs.Common.{ap, arith, inl, subst, sym, ⊎_elim, ◌∙◌}
use Rattle.std.specs.List.{slice_get}
use Rattle.std.specs.Option.{option_map}
use Rattle.std.specs.Prelude.{Bool, List, None, Option, Some, [], false, if◌then◌else◌, length, map, nat_lt, refl, suc, true, zero, ℕ, ◌+◌, ◌-◌, ◌<◌, ◌∷◌, ◌≡◌, ◌≤◌}
use Rattle.clf_syntax.specs.Renaming.{ren_type, up}
use Rattle.clf_syntax.specs.Simple.{Assignment, SimplyFormed, erase, extended_over}
use Rattle.clf_syntax.specs.Tree.{PlainObject}
use Rattle.clf_syntax.specs.TypeTree.{PlainType, SimpleType}
use Rattle.clf_syntax.specs.declared.tree.Head.{Head}
use Rattle.clf_syntax.specs.declared.tree.Head.TheVariants.{Const, Meta, Var}
use Rattle.clf_syntax.specs.declared.tree.Mode.{Mode}
use Rattle.use_contexts.specs.Context.{Context, HasVariable}
use Rattle.clf_sig.specs.Entry.{PlainSignature, constant_type}
use Rattle.hered_subst.proofs.SimpleTyping.{under_zero}
use Rattle.hered_subst.proofs.TypedResults.{result_is_typed, typed_has_result}
use Rattle.hered_subst.specs.Laws.{keeping}
use Rattle.hered_subst.specs.Substitution.{Environment, SubstitutedType, keep, put}
use Rattle.hered_subst.specs.TypedEnvironments.{StandsFor, TypedEnvironment, is_metavariable}
use Rattle.subst_laws.proofs.Instances.{composed_is_typed}
use Rattle.subst_laws.proofs.Results.{composition}
use Rattle.subst_laws.specs.Environments.{Composed, Follows, Instantiation, instant}
use Rattle.subst_laws.specs.Laws.{DoesBoth}
use Rattle.joined_laws.proofs.Results.{joined_keeps_types, respects_all}
use Rattle.joined_laws.specs.JoinedTypes.{JoinedType}
use Rattle.pattern_laws.proofs.Instances.{keeps as instance_keeps}
use Rattle.pattern_laws.specs.Equations.{Equation, SolvesEach, TypedEquations}
use Rattle.pattern_laws.specs.Instantiations.{Instantiates, Types, closed, over}
use Rattle.clf_rules.proofs.Signatures.{entries_well_formed}
use Rattle.clf_rules.specs.WellFormed.{WellFormedSignature, WellFormedType}
use Rattle.typing_laws.proofs.Erased.{of_constant, put_type}
use Rattle.typing_laws.specs.SimpleTyping.{constants_of, families_of, simple_of}
use Rattle.unify_laws.proofs.Consequences.{put_in}
use Rattle.elaboration_laws.proofs.Composites.{composed, in_turn, joined_self, solves_back}
use Rattle.elaboration_laws.proofs.General.{solutions_are_instances}
use Rattle.elaboration_laws.specs.InFront.{PutsInFront, StandsInFront}
use Rattle.elaboration_laws.specs.ItemSetting.{ReadTypes, given_type, item_constants, item_setting}
use Rattle.elaboration_laws.specs.Laws.{ElaborationsAreInstances, WellFormedElaborationSolves}
use Rattle.gathering.proofs.Conforming.{variable_there}
use Rattle.gathering.proofs.FormedInstances.{well_formed_solves}
use Rattle.gathering.proofs.SignatureSetting.{formed_over, kind_stays, type_formed, well_formed_closed}
use Rattle.gathering.proofs.Stays.{closed_stays}
use Rattle.gathering.proofs.TypedObjects.{unmarked_is, variable_simple}
use Rattle.gathering.specs.Instances.{FixedHead, FixedHeads, FormedKinds, FormedSetting, HasNoVariables, HasSignature, KeepsSignature, Takes}
use Rattle.gathering.specs.Items.{TypeGathers}
use Rattle.gathering.specs.Setting.{Setting}

the_type : {a b : SimpleType} → Some a ≡ Some b → a ≡ b
the_type e = cc

the_plain_type : {a b : PlainType} → Some a ≡ Some b → a ≡ b
the_plain_type e = cc

no_type : {u : SimpleType} → None ≡ Some u → ⊥
no_type e = cc

the_number : {i j : ℕ} → keep (Var i) ≡ keep (Var j) → i ≡ j
the_number e = cc

the_head : {h j : Head} → keep h ≡ keep j → h ≡ j
the_head e = cc

second_part : (x : Option (Mode × PlainType)) (e : Mode × PlainType) (m : Mode) (a : PlainType) → x ≡ Some e → x ≡ Some (m, a) → e.1 ≡ a
second_part x e m a p q = cc

-- the variables of a context have one type
one_variable : (g : Context) (i : ℕ) (a b : PlainType) → HasVariable g i a → HasVariable g i b → a ≡ b
one_variable g i a b p q = let (m, c, k, j) = p in let (m', d, k', j') = q in j ∙ ap (ren_type (up (i + 1))) (same (slice_get g i) m m' c d k k') ∙ sym j'
  where
    same : (x : Option (Mode × PlainType)) (m m' : Mode) (c d : PlainType) → x ≡ Some (m, c) → x ≡ Some (m', d) → c ≡ d
    same x m m' c d e f = second_part x (m, c) m' d e f

below : (c n : ℕ) → nat_lt c n ≡ true → c < n
below c n e = grind arith

above : (c n : ℕ) → nat_lt c n ≡ false → n ≤ c
above c n e = grind arith

past : (c n : ℕ) → n ≤ c → c ≡ n + (c - n)
past c n h = omega arith

-- a given type is that of a constant, or of an implicit variable
data GivenAs (sig : PlainSignature) (xs : List PlainType) (c : ℕ) (a : PlainType) : Type 0 where
  as_constant : c < length sig → constant_type sig c ≡ Some a → GivenAs sig xs c a
  as_implicit : (x : ℕ) → c ≡ length sig + x → slice_get xs x ≡ Some a → GivenAs sig xs c a

given_as : (sig : PlainSignature) (xs : List PlainType) (c : ℕ) (a : PlainType) → given_type sig xs c ≡ Some a → GivenAs sig xs c a
given_as sig xs c a e = at (nat_lt c (length sig)) refl e
  where
    at : (b : Bool) → nat_lt c (length sig) ≡ b → (if b then constant_type sig c else slice_get xs (c - length sig)) ≡ Some a → GivenAs sig xs c a
    at true i e = as_constant (below c (length sig) i) e
    at false i e = as_implicit (c - length sig) (past c (length sig) (above c (length sig) i)) e

-- a constant of the signature is given
constant_given : (sig : PlainSignature) (xs : List PlainType) (c : ℕ) (a : PlainType) → constant_type sig c ≡ Some a → given_type sig xs c ≡ Some a
constant_given sig xs c a e = at (nat_lt c (length sig)) refl
  where
    there : (s : PlainSignature) (c : ℕ) → constant_type s c ≡ Some a → c < length s
    there [] c e = absurd (cc)
    there (d ∷ s) zero e = omega arith
    there (d ∷ s) (suc c) e = let f = there s c e in omega (arith, f)

    at : (b : Bool) → nat_lt c (length sig) ≡ b → (if b then constant_type sig c else slice_get xs (c - length sig)) ≡ Some a
    at true i = e
    at false i = absurd (let f = there sig c e in let h = above c (length sig) i in omega (arith, h, f))

of_option : {x : Option PlainType} {u : SimpleType} → option_map erase x ≡ Some u → (a : PlainType) × (x ≡ Some a) × (erase a ≡ u)
of_option {x = None} e = absurd (no_type e)
of_option {x = Some a} e = (a, refl, the_type e)

module _ (sig : PlainSignature) (xs : List PlainType) (metas : Types) (formed_sig : WellFormedSignature sig) (read : ReadTypes sig xs metas) where
  constants : Types
  constants = item_constants sig xs

  types_formed : (c : ℕ) (a : PlainType) → constant_type sig c ≡ Some a → WellFormedType sig [] a
  types_formed = (entries_well_formed sig formed_sig).1

  abbrev item : Setting
  item = item_setting sig xs metas

  has : HasSignature sig item
  has = record { given = λ c a e. constant_given sig xs c a e; simple = λ c a e. ap (option_map erase) (constant_given sig xs c a e); shapes = λ a. unmarked_is a }

  formed_given : (c : ℕ) (a : PlainType) → GivenAs sig xs c a → SimplyFormed (families_of sig) item.simple a × HasNoVariables a
  formed_given c a (as_constant i e) = (type_formed sig item has refl a [] (types_formed c a e), well_formed_closed sig a (types_formed c a e))
  formed_given c a (as_implicit x i e) = ((read x a e).formed, (read x a e).closed_type)

  pub setting_formed : FormedSetting item
  setting_formed c a e = let r = formed_given c a (given_as sig xs c a e) in record { formed = r.0; simple = ap (option_map erase) e; closed = r.1 }

  pub kinds : FormedKinds sig item
  kinds f k e = record {
    arguments = ap (option_map (map erase)) e;
    formed = λ g. formed_over sig item has refl k ((entries_well_formed sig formed_sig).0 f k e) g;
    stays = λ s keeps. kind_stays sig s keeps k [] (sym (under_zero s)) ((entries_well_formed sig formed_sig).0 f k e);
  }

  module _ (parameters : Types) (t : Instantiation) (front : Context) (e : Environment) (stands_for : ℕ → Head)
      (inst : Instantiates (item_constants sig xs) metas parameters t) (puts : PutsInFront sig xs parameters t front e stands_for) where
    abbrev g : Assignment
    g = closed (item_constants sig xs) metas

    abbrev z : Assignment
    z = over (item_constants sig xs) parameters

    abbrev y : Assignment
    y = simple_of sig front

    typed_t : TypedEnvironment true g z (instant t)
    typed_t = instance_keeps (item_constants sig xs) metas parameters t inst

    filled_read : (x : ℕ) (a : PlainType) → slice_get xs x ≡ Some a → (b : PlainType) × SubstitutedType (instant t) a b × (erase b ≡ erase a)
    filled_read x a i = let (b, c, p, q) = (typed_has_result true (families_of sig) g z (instant t) typed_t).type a (read x a i).formed in (b, c, q)

    stands : (x : ℕ) (a : PlainType) (i : slice_get xs x ≡ Some a) → StandsInFront front e stands_for (Const (length sig + x)) (filled_read x a i).0
    stands x a i = puts.implicit x a (filled_read x a i).0 i (filled_read x a i).1

    front_type : (i : ℕ) (b : PlainType) → HasVariable front i b → y (Var i) ≡ Some (erase b)
    front_type i b p = variable_simple front (constants_of sig) i b p

    typed_constant : (c : ℕ) (u : SimpleType) (a : PlainType) → GivenAs sig xs c a → erase a ≡ u → StandsFor true y u (Const c) (e (Const c))
    typed_constant c u a (as_constant i k) q = inl (Const c, puts.constants c i, of_constant (constants_of sig) front c ∙ ap (option_map erase) k ∙ ap (λ v. Some v) q, refl)
    typed_constant c u a (as_implicit x i k) q = let s = stands x a k in
        inl (Var s.number, ap (λ n. e (Const n)) i ∙ s.put, front_type s.number s.type s.variable ∙ ap (λ v. Some v) (put_type s.carried ∙ (filled_read x a k).2 ∙ q), refl)

    typed_e : TypedEnvironment true z y e
    typed_e (Const c) u i = let (a, k, q) = of_option i in typed_constant c u a (given_as sig xs c a k) q
    typed_e (Var v) u i = let (j, k, l) = puts.parameter v u i in let (b, p, q) = puts.placed v j u i k in inl (Var j, k, front_type j b p ∙ ap (λ v. Some v) q, refl)
    typed_e (Meta m) u i = absurd (no_type i)

    s : Environment
    s = in_turn g z y (instant t) e typed_t typed_e

    turns : Composed g (instant t) e s
    unfolding s
    turns = composed g z y (instant t) e typed_t typed_e

    typed_s : TypedEnvironment true g y s
    typed_s = composed_is_typed g z y (instant t) e s typed_t typed_e turns

    at_constant : (c : ℕ) (a : PlainType) → given_type sig xs c ≡ Some a → s (Const c) ≡ e (Const c)
    at_constant c a i = ⊎_elim (λ r. r.2 ∙ ap e (sym (the_head r.1))) (λ r. absurd (kept_put r.2)) (turns (Const c) (erase a) (ap (option_map erase) i))
      where
        kept_put : {h : Head} {n : PlainObject} → keep h ≡ put n → ⊥
        kept_put e = cc

    keeps_signature : KeepsSignature sig s
    keeps_signature c a i = at_constant c a (constant_given sig xs c a i) ∙ kept (given_as sig xs c a (constant_given sig xs c a i))
      where
        there : (s : PlainSignature) (c : ℕ) → constant_type s c ≡ Some a → c < length s
        there [] c e = absurd (cc)
        there (d ∷ s) zero e = omega arith
        there (d ∷ s) (suc c) e = let f = there s c e in omega (arith, f)

        kept : GivenAs sig xs c a → e (Const c) ≡ keep (Const c)
        kept g = puts.constants c (there sig c i)

    both_ : DoesBoth (families_of sig) g (instant t) e s
    both_ = composition (families_of sig) g z y (instant t) e s typed_t typed_e turns

    fixed : FixedHeads sig item front s
    fixed c a i = at (given_as sig xs c a i)
      where
        at : GivenAs sig xs c a → FixedHead sig front s c a
        at (as_constant l k) = record {
          head = Const c;
          kept = keeps_signature c a k;
          carried = λ b q. subst (λ (x : PlainType). SubstitutedType s a x) (the_plain_type (sym k ∙ q)) (closed_stays sig s keeps_signature a (types_formed c a k));
          closed = well_formed_closed sig a (types_formed c a k);
        }
        at (as_implicit x l k) = let r = stands x a k in record {
          head = Var r.number;
          kept = at_constant c a i ∙ ap (λ n. e (Const n)) l ∙ r.put;
          carried = λ b q. subst (λ (v : PlainType). SubstitutedType s a v) (one_variable front r.number r.type b r.variable q) (both_.type a (filled_read x a k).0 r.type (read x a k).formed (filled_read x a k).1 r.carried);
          closed = (read x a k).closed_type;
        }

    takes : Takes sig item front y s
    takes = record { constants = λ c a i. well_formed_closed sig a (types_formed c a i); fixed = fixed; formed = setting_formed; no_implicit = λ k. refl; typed = typed_s }

    -- back from the front variables
    back : Environment
    back (Const c) = keep (Const c)
    back (Var j) = keep (stands_for j)
    back (Meta m) = keep (Meta m)

    not_meta : (h : Head) (u : SimpleType) → z h ≡ Some u → is_metavariable h ≡ false
    not_meta (Const c) u i = refl
    not_meta (Var v) u i = refl
    not_meta (Meta m) u i = absurd (no_type i)

    abbrev front_setting : Setting
    front_setting = record { given = item.given; implicit = item.implicit; shape = item.shape; simple = constants_of sig; arguments = item.arguments; fills = true }

    typed_back : TypedEnvironment true y z back
    unfolding back
    typed_back (Const c) u i = let (a, k, q) = of_option (sym (of_constant (constants_of sig) front c) ∙ i) in inl (Const c, refl, ap (option_map erase) (constant_given sig xs c a k) ∙ ap (λ v. Some v) q, refl)
    typed_back (Var j) u i = let (a, p, q) = variable_there front_setting (λ v. refl) front j u i in let k = puts.known j a p in inl (stands_for j, refl, k ∙ ap (λ v. Some v) q, not_meta (stands_for j) (erase a) k)
    typed_back (Meta m) u i = absurd (no_meta front i)
      where
        no_meta : (es : Context) → extended_over es (constants_of sig) (Meta m) ≡ Some u → ⊥
        no_meta [] i = no_type i
        no_meta (x ∷ es) i = no_meta es i

    backs : Composed z e back (keeping (λ i. i))
    unfolding back
    backs (Const c) u i = let (a, k, q) = of_option i in at c u a (given_as sig xs c a k)
      where
        at : (c : ℕ) (u : SimpleType) (a : PlainType) → GivenAs sig xs c a → Follows back (e (Const c)) (keep (Const c))
        at c u a (as_constant l k) = inl (Const c, puts.constants c l, refl)
        at c u a (as_implicit x l k) = let r = stands x a k in inl (Var r.number, ap (λ n. e (Const n)) l ∙ r.put, ap (λ n. keep (Const n)) l ∙ ap keep (sym r.back))
    backs (Var v) u i = let (j, k, l) = puts.parameter v u i in inl (Var j, k, ap keep (sym l))
    backs (Meta m) u i = absurd (no_type i)

    pub solves_tree : (tree filled b : PlainType) (q : List Equation) → SimplyFormed (families_of sig) g tree → TypedEquations (item_constants sig xs) metas q → TypeGathers sig item [] [] tree q
        → SubstitutedType (instant t) tree filled → SubstitutedType e filled b → WellFormedType sig front b → SolvesEach (instant t) q
    solves_tree tree filled b q f p gathers c d r =
        let whole = both_.type tree filled b f c d in
        let solved = ((well_formed_solves sig item front y s takes keeps_signature kinds [] front [] q refl tt).types tree b (subst (λ v. SubstitutedType v tree b) (sym (under_zero s)) whole) r gathers).0 in
        solves_back g z y (instant t) e s back typed_t typed_e typed_back turns backs (item_constants sig xs) metas refl q p solved

    pub instance_in_front : (core filled c b : PlainType) → SimplyFormed (families_of sig) z filled → JoinedType filled c → SubstitutedType e filled b → (d : PlainType) × SubstitutedType e c d × JoinedType b d
    instance_in_front core filled c b f j p =
        let (fc, ec) = (joined_keeps_types true z (families_of sig)).type filled c j f in let (d, x, fd, ed) = (typed_has_result true (families_of sig) z y e typed_e).type c fc in
        (d, x, (respects_all (families_of sig) z y e e typed_e typed_e (joined_self z e)).type filled c b d f j p x)

pub well_formed_elaboration_solves : WellFormedElaborationSolves
well_formed_elaboration_solves sig xs metas tree q formed_sig gathered front b elaboration r =
    solves_tree sig xs metas formed_sig gathered.read elaboration.parameters elaboration.fills front elaboration.put elaboration.stands_for elaboration.instantiates elaboration.in_front
    tree elaboration.filled b q gathered.formed gathered.typed gathered.gathers elaboration.filling elaboration.putting r

pub elaborations_are_instances : ElaborationsAreInstances
elaborations_are_instances sig xs metas tree core q formed_sig gathered now s keeps_solutions grows put_in c front b elaboration r =
    let solved = well_formed_elaboration_solves sig xs metas tree q formed_sig gathered front b elaboration r in
    let (v, inst, same) = solutions_are_instances (families_of sig) (item_constants sig xs) metas q now s keeps_solutions grows put_in elaboration.parameters elaboration.fills elaboration.instantiates solved in
    let (x, i, j) = same.types tree core elaboration.filled gathered.formed c elaboration.filling in
    let f = ((result_is_typed true (families_of sig) (closed (item_constants sig xs) metas) (over (item_constants sig xs) elaboration.parameters) (instant elaboration.fills)
    (instance_keeps (item_constants sig xs) metas elaboration.parameters elaboration.fills elaboration.instantiates)).type tree elaboration.filled gathered.formed elaboration.filling).0 in
    let (d, k, l) = instance_in_front sig xs metas formed_sig gathered.read elaboration.parameters elaboration.fills front elaboration.put elaboration.stands_for elaboration.instantiates elaboration.in_front
    core elaboration.filled x b f j elaboration.putting in
    record { fills = v; filled = x; elaborated = d; instantiates = inst; filling = i; putting = k; joined = l }
