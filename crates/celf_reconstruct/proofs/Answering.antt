-- What is answered of what is found.
use Rattle.std.proofs.Common.{Result, ℕ, zero, suc, ◌+◌, ◌≡◌, ◌<◌, ◌++◌, Bool, true, false, refl, sym, ap, subst, ◌∙◌, ◌⊎◌, ⊎_elim, Option, Some, None, Err, List, [], ◌∷◌, length, map, option_map, arith, slice_get, Contains}
use Rattle.std.specs.List.{range_with_len, slice_index_or}
use Rattle.std.proofs.lemmas.List.Elements.{Contains-append_cases}
use Rattle.std.proofs.lemmas.List.FromFn.{length-range_with_len, get_or-range_with_len}
use Rattle.clf_syntax.specs.TypeTree.{PlainType, SimpleType}
use Rattle.clf_syntax.specs.PlainTypes.{plain_ty}
use Rattle.clf_syntax.specs.declared.tree.Ty.{Ty}
use Rattle.clf_syntax.specs.declared.tree.Simple.{Simple}
use Rattle.clf_syntax.specs.PlainSimple.{plain_simple}
use Rattle.clf_syntax.specs.declared.fault.OrWide.{OrWide}
use Rattle.clf_syntax.specs.declared.fault.OrWide.TheVariants.{Fault, NoMemory, TooFar}
use Rattle.subst_laws.specs.Environments.{Instantiation, instant}
use Rattle.hered_subst.specs.Substitution.{Environment}
use Rattle.clf_sig.specs.declared.entry.Entry.{Entry}
use Rattle.clf_sig.specs.Entry.{PlainClass, PlainEntry, PlainSignature}
use Rattle.clf_sig.specs.Core.{PlainCore, declares, queries, traces, equates, checks, plain_core}
use Rattle.pattern_laws.specs.Instantiations.{Types}
use Rattle.celf_sugar.specs.PlainTree.{DesugaredBody, DesugaredItem}
use Rattle.celf_implicit.specs.declared.variable.Implicit.{Implicit}
use Rattle.celf_implicit.specs.declared.variable.Variable.{Variable}
use Rattle.celf_implicit.specs.Answers.{AreAll, IsAnswer, plain_implicit}
use Rattle.celf_implicit.specs.Rounds.{determined}
use Rattle.celf_explicit.specs.Explicit.{entry_of}
use Rattle.celf_elaboration.specs.Declarations.{declared_heads}
use Rattle.celf_elaboration.specs.Fillings.{Fillings}
use Rattle.celf_elaboration.specs.Items.{ReadsBody, reads_family_declaration, reads_constant_declaration, reads_query, reads_trace, reads_equation, reads_check, SubstitutedCore, in_declaration, in_query, in_trace, in_equation, in_check}
use Rattle.celf_elaboration.specs.Names.{ImplicitVariable, TypedVariable, with_simple_type, types_read}
use Rattle.celf_filled.specs.Scopes.{plain_named}
use Rattle.celf_filled.specs.TypedFrom.{indices_of, new_in}
use Rattle.celf_filled.specs.States.{State, state_of}
use Rattle.celf_filled.specs.WalkItems.{fill_body}
use Rattle.store_laws.specs.Additions.{Addition}
use Rattle.metavars.specs.Stored.{Stored, constants, additions}
use Rattle.celf_reconstruct.proofs.Variables.{names-of-known}
use Rattle.filled_laws.specs.FreshTypes.{types_from}
use Rattle.celf_replies.specs.declared.reply.Why.{Why}
use Rattle.celf_replies.specs.Reply.{PlainWhy, plain_why, ill_typed, loose, circular}
use Rattle.celf_solve.specs.declared.scene.Scene.{Scene}
use Rattle.celf_solve.specs.declared.scene.Found.{Found}
use Rattle.celf_solve.specs.Scenes.{tree_of, types_of, metas_in}
use Rattle.celf_solve.specs.Settled.{EachBecomes, Comes}
use Rattle.celf_reconstruct.specs.Trees.{determined_name, read_name, IsItemTree}
use Rattle.celf_reconstruct.specs.Left.{metavariables_with, IsNamed}
use Rattle.celf_reconstruct.specs.Posed.{IsDeclaration, IsNamedTree, IsPosed, as_read, as_named}
use Rattle.celf_reconstruct.specs.Naming.{types_in, AreSimples, IsNamedScene}
use Rattle.celf_reconstruct.specs.Reconstructed.{IsFound, IsCheck, IsSearch, IsTest, AreBinders, IsDeclared, Reconstructs, found_check, found_declaration, name_of, variable_name, Declines, no_type, no_tree, left_loose, in_a_circle, IsReconstruction}
use Rattle.celf_reconstruct.specs.Steps.{Declined, SaysUndetermined, IsFor, IsIllTyped, AreVariables, HasScene, HasFound, AreWithin, name_in, variable_of, IsCircular, IsWithinReach}
use Rattle.celf_reconstruct.proofs.Families.{HasUntypedOne}
use Rattle.celf_reconstruct.proofs.NoTree.{HasNoTree, untyped_variable, untyped_place, nothing_filled, no-tree}

-- ---- lengths

map-length : {X Y : Type 0} (k : X → Y) (xs : List X) → length (map k xs) ≡ length xs
map-length k [] = refl
map-length k (x ∷ xs) = ap suc (map-length k xs)

append-length : {X : Type 0} (xs ys : List X) → length (xs ++ ys) ≡ length xs + length ys
append-length [] ys = omega arith
append-length (x ∷ xs) ys = let e = append-length xs ys in omega arith

pub nothing-in : {X : Type 0} (xs : List X) → length xs ≡ 0 → xs ≡ []
nothing-in [] e = refl
nothing-in (x ∷ xs) e = absurd (omega arith)

pub variables-length : (xs : List Implicit) (vs : List TypedVariable) → AreVariables vs xs → length vs ≡ length xs
variables-length xs vs e = sym (map-length read_name vs) ∙ ap (λ (l : List _). length l) (sym e) ∙ map-length plain_named xs

becomes-length : (s : Instantiation) (as_ bs : List PlainType) → EachBecomes s as_ bs → length bs ≡ length as_
becomes-length s [] [] h = refl
becomes-length s [] (b ∷ bs) h = absurd h
becomes-length s (a ∷ as_) [] h = absurd h
becomes-length s (a ∷ as_) (b ∷ bs) h = ap suc (becomes-length s as_ bs h.1)

made-length : (indices : ℕ → List SimpleType) (k : ℕ) (ts : List SimpleType) → length (types_from indices k ts) ≡ length ts
made-length indices k [] = refl
made-length indices k (t ∷ ts) = ap suc (made-length indices (k + length (new_in indices [] t)) ts)

simples-length : (metas : Types) (left : List ℕ) (ts : List SimpleType) → map metas left ≡ map Some ts → length ts ≡ length left
simples-length metas left ts e = sym (map-length Some ts) ∙ ap (λ (l : List (Option SimpleType)). length l) (sym e) ∙ map-length metas left

-- What is found has a type for each implicit variable and each unnamed one.
pub types-length : (sig : PlainSignature) (body : DesugaredBody) (vs : List TypedVariable) (unnamed : ℕ) (core : PlainCore) (types : List PlainType)
    → IsFound sig body vs unnamed core types → length types ≡ length vs + unnamed
types-length sig body vs unnamed core types f = becomes-length f.comes.settles.solutions f.before types f.comes.settles.types_become ∙ before-length f.posed
  where
    before-length : {k : ℕ} {before : List PlainType} {metas : Types} {tree : PlainCore} → IsPosed sig body vs k before metas tree → length before ≡ length vs + k
    before-length (as_read t) = let e = map-length (λ (v : TypedVariable). v.type) vs in omega arith
    before-length (as_named {simples = simples} {types = all} n) =
        let one = becomes-length n.comes.settles.solutions (types_read vs) n.after n.comes.settles.types_become in
        let two = becomes-length _ n.after n.named.named n.named.named_types in
        let three = ap (λ (l : List PlainType). length l) n.named.all_types in
        let four = append-length n.named.named (types_from (indices_of sig) (length n.named.old) simples) in
        let five = made-length (indices_of sig) (length n.named.old) simples in
        let six = map-length (λ (v : TypedVariable). v.type) vs in
        omega arith

-- ---- names

pub name-same : (xs : List Implicit) (vs : List TypedVariable) → AreVariables vs xs → (i : ℕ) → name_in xs i ≡ name_of vs i
name-same [] [] e i = refl
name-same [] (v ∷ vs) e i = absurd (cc)
name-same (x ∷ xs) [] e i = absurd (cc)
name-same (x ∷ xs) (v ∷ vs) e zero = let first : plain_named x ≡ read_name v = cc in ap (λ n. Some n.0) first
name-same (x ∷ xs) (v ∷ vs) e (suc i) = let rest : AreVariables vs xs = cc in name-same xs vs rest i

names-same : (xs : List Implicit) (vs : List TypedVariable) → AreVariables vs xs → (is : List ℕ) → map (name_in xs) is ≡ map (name_of vs) is
names-same xs vs e [] = refl
names-same xs vs e (i ∷ is) = both (name-same xs vs e i) (names-same xs vs e is)
  where
    both : {a b : Option (List ℕ)} {as_ bs : List (Option (List ℕ))} → a ≡ b → as_ ≡ bs → a ∷ as_ ≡ b ∷ bs
    both p q = cc

-- ---- binders

pub binders-within : (sig : PlainSignature) (body : DesugaredBody) (named unnamed : ℕ) (binders : List ℕ) → AreBinders sig body named unnamed binders → AreWithin (named + unnamed) binders
binders-within sig body named unnamed binders b k there = ⊎_elim in_range in_order (Contains-append_cases (range_with_len named unnamed) b.order k (subst (λ l. Contains l k) b.listed there))
  where
    in_range : Contains (range_with_len named unnamed) k → k < named + unnamed
    in_range c =
        let (i, l, e) = c in
        let size = length-range_with_len named unnamed in
        let at : slice_index_or (range_with_len named unnamed) i k ≡ named + i = get_or-range_with_len named unnamed i k (omega arith) in
        omega arith

    in_order : Contains b.order k → k < named + unnamed
    in_order c = let l = b.appear.numbers k c in omega arith

-- ---- trees of declarations

declares-after : (s : Environment) (tree core : PlainCore) → SubstitutedCore s tree core → IsDeclaration tree → IsDeclaration core
declares-after s tree core (in_declaration h) d = tt
declares-after s tree core (in_query h) d = d
declares-after s tree core (in_trace h) d = d
declares-after s tree core (in_equation h i j) d = d
declares-after s tree core (in_check h i) d = d

-- What is read of an item within reach, and is no declaration, is a check or an equation; and that has no implicit variable.
of_reading : {sig : PlainSignature} {b : DesugaredBody} {fs : Fillings} {us : List ImplicitVariable} {tree core : PlainCore} (s : Environment) → IsWithinReach sig b → ReadsBody sig (declared_heads sig) us b fs tree
    → SubstitutedCore s tree core → (IsDeclaration core → ⊥) → IsCheck core × (determined sig b ≡ [])
of_reading s reach (reads_family_declaration r) (in_declaration h) not = absurd (not tt)
of_reading s reach (reads_constant_declaration r) (in_declaration h) not = absurd (not tt)
of_reading s reach (reads_query r) h not = absurd (reach.no_search tt)
of_reading s reach (reads_trace r) h not = absurd (reach.no_search tt)
of_reading s reach (reads_equation r q p) (in_equation h i j) not = (tt, reach.no_variables tt)
of_reading s reach (reads_check r q) (in_check h i) not = (tt, reach.no_variables tt)

-- So is what is found.
module _ (sig : PlainSignature) (body : DesugaredBody) (reach : IsWithinReach sig body) (vs : List TypedVariable) (core : PlainCore) (types : List PlainType) (not : IsDeclaration core → ⊥) where
  no_variable : map determined_name (determined sig body) ≡ map read_name vs → determined sig body ≡ [] → vs ≡ []
  no_variable e d = by vs (sym (ap (map determined_name) d) ∙ e)
    where
      by : (us : List TypedVariable) → [] ≡ map read_name us → us ≡ []
      by [] e = refl
      by (u ∷ us) e = absurd (cc)

  nothing_becomes : (s : Instantiation) (us : List TypedVariable) → us ≡ [] → EachBecomes s (types_read us) types → types ≡ []
  nothing_becomes s us e h = nothing-in types (becomes-length s (types_read us) types h ∙ ap (λ (l : List TypedVariable). length (types_read l)) e)

  pub check-found : (unnamed : ℕ) → IsFound sig body vs unnamed core types → IsCheck core × (vs ≡ []) × (types ≡ [])
  check-found unnamed f = by f.posed f.comes.settles.core_becomes f.comes.settles.types_become
    where
      by : {k : ℕ} {before : List PlainType} {metas : Types} {tree : PlainCore} → IsPosed sig body vs k before metas tree → SubstitutedCore (instant f.comes.settles.solutions) tree core
          → EachBecomes f.comes.settles.solutions before types → IsCheck core × (vs ≡ []) × (types ≡ [])
      by (as_read t) h each = let (c, d) = of_reading (instant f.comes.settles.solutions) reach t.reading h not in let n = no_variable t.these d in (c, n, nothing_becomes f.comes.settles.solutions vs n each)
      by (as_named {tree = tree} n) h each = absurd (not (declares-after _ tree core h (declares-after _ n.core tree n.named.named_core n.declaration)))

-- ---- the answers

module _ (sig : PlainSignature) (item : DesugaredItem) (xs : List Implicit) where
  pub ill_typed_for : (fault : OrWide Why) → HasNoTree sig item.body → IsFor IsIllTyped fault → Declined sig item fault
  ill_typed_for (Fault why) none h = let (m, e) = h in subst (Declines sig item.body) (sym e) (no_tree (no-tree sig item.body none))
  ill_typed_for NoMemory none h = tt
  ill_typed_for (TooFar w) none h = h

  pub variable_done : AreAll sig item.body xs → HasUntypedOne (map plain_implicit xs) → HasNoTree sig item.body
  variable_done all u = let (y, there, none) = u in untyped_variable (subst (λ ys. Contains ys y) all.found there) none

  -- The walk from a store without metavariables did not fill in all.
  pub place_done : AreAll sig item.body xs → (old between : Stored) (core : PlainCore) (whole : Bool) → additions old ≡ []
      → (core, state_of between whole) ≡ fill_body sig (map plain_named xs) item.body (state_of old true) → whole ≡ false → HasNoTree sig item.body
  place_done all old between core whole nothing made e = untyped_place (constants old) (sym (ap (λ (v : PlainCore × State). v.1.whole) start) ∙ e)
    where
      from : state_of old true ≡ nothing_filled (constants old)
      from = ap (λ (zs : List Addition). let s : State = record { constants = constants old; added = zs; whole = true } in s) nothing

      names : map plain_named xs ≡ map determined_name (determined sig item.body)
      names = sym (names-of-known xs) ∙ ap (map determined_name) all.found

      start : (core, state_of between whole) ≡ fill_body sig (map determined_name (determined sig item.body)) item.body (nothing_filled (constants old))
      start = made ∙ ap (λ ns. fill_body sig ns item.body (state_of old true)) names ∙ ap (λ (s : State). fill_body sig (map determined_name (determined sig item.body)) item.body s) from

  loose-for : (count : ℕ) (fault : OrWide Why) → (IsFor (λ why. why ≡ loose count) fault) → Declines sig item.body (loose count) → Declined sig item fault
  loose-for count (Fault why) h d = subst (Declines sig item.body) (sym h) d
  loose-for count NoMemory h d = tt
  loose-for count (TooFar w) h d = h

  pub loose_done : (unnamed : ℕ) (f : Found) → HasFound sig item.body xs unnamed f → (IsDeclaration (plain_core f.core) → unnamed ≡ 0 → ⊥)
      → (count : ℕ) → count ≡ length (metavariables_with (plain_core f.core) (map plain_ty f.types)) → (count ≡ 0 → ⊥)
      → (fault : OrWide Why) → IsFor (λ why. why ≡ loose count) fault → Declined sig item fault
  loose_done unnamed f h last count e some fault l = loose-for count fault l
      (left_loose (record { vs = h.vs; unnamed = unnamed; core = plain_core f.core; types = map plain_ty f.types; found = h.found; last = last; counted = e; some_left = some }))

  pub check_done : IsWithinReach sig item.body → (f : Found) → HasFound sig item.body xs 0 f → (IsDeclaration (plain_core f.core) → ⊥)
      → 0 ≡ length (metavariables_with (plain_core f.core) (map plain_ty f.types)) → Reconstructs sig item.body (plain_core f.core)
  check_done reach f h not e =
      let (c, v, t) = check-found sig item.body reach h.vs (plain_core f.core) (map plain_ty f.types) not 0 h.found in
      let found : IsFound sig item.body [] 0 (plain_core f.core) [] = subst (λ us. IsFound sig item.body us 0 (plain_core f.core) []) v (subst (λ as_. IsFound sig item.body h.vs 0 (plain_core f.core) as_) t h.found) in
      let none : metavariables_with (plain_core f.core) [] ≡ [] = nothing-in (metavariables_with (plain_core f.core) []) (ap (λ as_. length (metavariables_with (plain_core f.core) as_)) (sym t) ∙ sym e) in
      found_check c found none

  -- ---- once more

  pub again_scene : (f : Found) → HasFound sig item.body xs 0 f → IsDeclaration (plain_core f.core) → (metavariables_with (plain_core f.core) (map plain_ty f.types) ≡ [] → ⊥)
      → (simples : List SimpleType) (scene : Scene) → IsNamedScene sig f simples scene → HasScene sig item.body xs (length simples) scene
  again_scene f h d some simples scene n = record {
    vs = h.vs;
    variables = h.variables;
    posed = by refl h.found.posed h.found.comes;
    is_scene = n.is_scene;
    families = n.families;
  }
    where
      by : {k : ℕ} {before : List PlainType} {metas : Types} {tree : PlainCore} → k ≡ 0 → IsPosed sig item.body h.vs k before metas tree
          → Comes sig before metas tree h.found.now (plain_core f.core) (map plain_ty f.types) → IsPosed sig item.body h.vs (length simples) (types_of scene) (metas_in scene) (tree_of scene)
      by {metas = metas} {tree = tree} z (as_read t) c = as_named (record {
        first_metas = metas;
        first_tree = tree;
        is_tree = t;
        now = h.found.now;
        core = plain_core f.core;
        after = map plain_ty f.types;
        comes = c;
        declaration = d;
        some_left = some;
        named = subst (λ (k : Types). IsNamed sig k (plain_core f.core) (map plain_ty f.types) simples (tree_of scene) (types_of scene) (metas_in scene)) (sym h.metas) n.named;
      })
      by z (as_named {simples = ts} m) c = absurd (m.some_left (nothing-in (metavariables_with m.core m.after) (sym (simples-length m.now.metas (metavariables_with m.core m.after) ts m.named.simple) ∙ z)))

  pub some_unnamed : (f : Found) (left : List ℕ) (simples : List SimpleType) → AreSimples (types_in f.store) left simples → (left ≡ [] → ⊥) → length simples ≡ 0 → ⊥
  some_unnamed f left simples are some e = some (nothing-in left (sym (simples-length (types_in f.store) left simples are) ∙ e))

  -- ---- declarations

  pub declared_done : (unnamed : ℕ) (f : Found) → HasFound sig item.body xs unnamed f → (name : List ℕ) (written : ℕ) (class : PlainClass)
      → plain_core f.core ≡ declares name (entry_of written class) → metavariables_with (plain_core f.core) (map plain_ty f.types) ≡ []
      → (binders : List ℕ) → AreBinders sig item.body (length xs) unnamed binders → (e : PlainEntry) → IsDeclared sig (map plain_ty f.types) binders written class e
      → Reconstructs sig item.body (declares name e)
  declared_done unnamed f h name written class is none binders b e d = found_declaration
      (subst (λ c. IsFound sig item.body h.vs unnamed c (map plain_ty f.types)) is h.found)
      (subst (λ c. metavariables_with c (map plain_ty f.types) ≡ []) is none)
      (subst (λ k. AreBinders sig item.body k unnamed binders) (sym (variables-length xs h.vs h.variables)) b) d

  pub circle_done : (unnamed : ℕ) (f : Found) → HasFound sig item.body xs unnamed f → metavariables_with (plain_core f.core) (map plain_ty f.types) ≡ []
      → (binders : List ℕ) → AreBinders sig item.body (length xs) unnamed binders
      → (fault : OrWide Why) → IsFor (IsCircular sig xs (map plain_ty f.types) binders) fault → Declined sig item fault
  circle_done unnamed f h none binders b (Fault why) c = let (circle, is, e) = c in subst (Declines sig item.body) (sym e) (in_a_circle (record {
    vs = h.vs;
    unnamed = unnamed;
    core = plain_core f.core;
    types = map plain_ty f.types;
    found = h.found;
    none_left = none;
    binders = binders;
    are_binders = subst (λ k. AreBinders sig item.body k unnamed binders) (sym (variables-length xs h.vs h.variables)) b;
    circle = circle;
    is_circle = is;
    named = names-same xs h.vs h.variables circle;
  }))
  circle_done unnamed f h none binders b NoMemory c = tt
  circle_done unnamed f h none binders b (TooFar w) c = c

  pub within_done : (unnamed : ℕ) (f : Found) → HasFound sig item.body xs unnamed f → (binders : List ℕ) → AreBinders sig item.body (length xs) unnamed binders → AreWithin (length f.types) binders
  within_done unnamed f h binders b k there =
      let l = binders-within sig item.body (length xs) unnamed binders b k there in
      let one = types-length sig item.body h.vs unnamed (plain_core f.core) (map plain_ty f.types) h.found in
      let two = variables-length xs h.vs h.variables in
      let three = map-length plain_ty f.types in
      omega arith

-- ---- slices of lists are these lists

pub within_as : (types slice : List Ty) → slice ≡ types → (binders numbers : List ℕ) → numbers ≡ binders → AreWithin (length types) binders → AreWithin (length slice) numbers
within_as types slice e binders numbers i h = subst (λ (ts : List Ty). AreWithin (length ts) numbers) (sym e) (subst (AreWithin (length types)) (sym i) h)

pub declared_as : (sig : PlainSignature) (types slice : List Ty) → slice ≡ types → (binders numbers : List ℕ) → numbers ≡ binders → (written : ℕ) (class : PlainClass) (e : PlainEntry)
    → IsDeclared sig (map plain_ty slice) numbers written class e → IsDeclared sig (map plain_ty types) binders written class e
declared_as sig types slice e binders numbers i written class d h =
    subst (λ (ts : List Ty). IsDeclared sig (map plain_ty ts) binders written class d) e (subst (λ (ns : List ℕ). IsDeclared sig (map plain_ty slice) ns written class d) i h)

pub circular_as : (sig : PlainSignature) (xs : List Implicit) (types slice : List Ty) → slice ≡ types → (binders numbers : List ℕ) → numbers ≡ binders → (fault : OrWide Why)
    → IsFor (IsCircular sig xs (map plain_ty slice) numbers) fault → IsFor (IsCircular sig xs (map plain_ty types) binders) fault
circular_as sig xs types slice e binders numbers i fault h =
    subst (λ (ts : List Ty). IsFor (IsCircular sig xs (map plain_ty ts) binders) fault) e (subst (λ (ns : List ℕ). IsFor (IsCircular sig xs (map plain_ty slice) ns) fault) i h)

-- ---- once more

-- What comes of a named tree is a declaration.
pub still_declared : {sig : PlainSignature} {body : DesugaredBody} {vs : List TypedVariable} {unnamed : ℕ} {core : PlainCore} {types : List PlainType}
    → (unnamed ≡ 0 → ⊥) → IsFound sig body vs unnamed core types → IsDeclaration core
still_declared {sig = sig} {body = body} {vs = vs} {core = core} some f = by some f.posed f.comes.settles.core_becomes
  where
    by : {k : ℕ} {before : List PlainType} {metas : Types} {tree : PlainCore} → (k ≡ 0 → ⊥) → IsPosed sig body vs k before metas tree → SubstitutedCore (instant f.comes.settles.solutions) tree core → IsDeclaration core
    by none (as_read t) h = absurd (none refl)
    by none (as_named {tree = tree} n) h = declares-after _ tree core h (declares-after _ n.core tree n.named.named_core n.declaration)

pub plain_length : (ss : List Simple) → length (map plain_simple ss) ≡ length ss
plain_length ss = map-length plain_simple ss

-- ---- what implicit variables come to

undetermined_for : (sig : PlainSignature) (item : DesugaredItem) (fault : OrWide Variable) (why : OrWide Why) → IsAnswer sig item (Err fault) → SaysUndetermined fault why → Declined sig item why
undetermined_for sig item (Fault v) (Fault why) h e = subst (Declines sig item.body) (sym e) (no_type h)
undetermined_for sig item (Fault v) NoMemory h e = tt
undetermined_for sig item (Fault v) (TooFar w) h e = e
undetermined_for sig item NoMemory why h e = subst (Declined sig item) (sym e) tt
undetermined_for sig item (TooFar w) why h e = subst (Declined sig item) (sym e) h

pub undetermined_done : (sig : PlainSignature) (item : DesugaredItem) (r : Result (List Implicit) (OrWide Variable)) (fault : OrWide Variable) (why : OrWide Why) → r ≡ Err fault → IsAnswer sig item r
    → SaysUndetermined fault why → Declined sig item why
undetermined_done sig item r fault why e h u = undetermined_for sig item fault why (subst (IsAnswer sig item) e h) u
