-- What is wrong with a tree at the first place at which it does not conform: the causes of the kernel's table, read with simple types.
--
-- A part's children come in the order of their numbers, before the part's own last test: what stands before the place conforms.
use Rattle.std.specs.Prelude.{ℕ, ◌≡◌, ◌⊎◌, true, false, List, [], ◌∷◌, length, None, Some}
use Rattle.clf_syntax.specs.declared.tree.Mode.{Mode}
use Rattle.clf_syntax.specs.declared.tree.Head.{Head}
use Rattle.clf_syntax.specs.declared.tree.Head.TheVariants.{Const, Var, Meta}
use Rattle.clf_syntax.specs.Tree.{PlainObject, lam, pair, unit, monadic, atomic, hole, PlainNeutral, head_alone, app, fst, snd, PlainExpression, step, done, PlainTuple, empty, entry, head_of}
use Rattle.clf_syntax.specs.TypeTree.{PlainType, family, function, both, top, monad, PlainTelescope, end, binding, PlainKind, SimpleType, base, arrow, simple_with, simple_top, lax, SimpleTelescope, simple_end, simple_binding}
use Rattle.clf_syntax.specs.Simple.{erase, Assignment, Families, extended, extended_by, simple_modes, SimplyTyped}
use Rattle.clf_sig.specs.Entry.{PlainClass, family_of, constant_of}
use Rattle.clf_sig.specs.Core.{PlainCore, declares, queries, traces, equates, checks}
use Rattle.hered_subst.specs.TypedEnvironments.{is_metavariable}
use Rattle.celf_conform.specs.declared.misfit.Misfit.{Misfit}
use Rattle.celf_conform.specs.declared.misfit.Misfit.TheVariants.{NotFunction, NotPair, NotTop, NotMonad, NotAtomic, NotClosed, ModeDiffers, Width, FamilyDiffers, UnknownHead, FamilyArity}
use Rattle.celf_conform.specs.Decision.{widths}
use Rattle.celf_conform.specs.Fits.{Fits, NeutralFits, TypeFits}

abbrev pub IsNoFunction : SimpleType → Type 0
IsNoFunction (arrow m d c) = ⊥
IsNoFunction _ = Unit {0}

abbrev pub IsNoPair : SimpleType → Type 0
IsNoPair (simple_with c d) = ⊥
IsNoPair _ = Unit {0}

abbrev pub IsNoTop : SimpleType → Type 0
IsNoTop simple_top = ⊥
IsNoTop _ = Unit {0}

abbrev pub IsNoMonad : SimpleType → Type 0
IsNoMonad (lax s) = ⊥
IsNoMonad _ = Unit {0}

abbrev pub IsNoFamily : SimpleType → Type 0
IsNoFamily (base f) = ⊥
IsNoFamily _ = Unit {0}

-- The first mode of a pattern that is another than its entry's.
pub data FirstOther : List Mode → List Mode → Misfit → Type 0 where
  other_here : {k m : Mode} {ks ms : List Mode} → (k ≡ m → ⊥) → FirstOther (k ∷ ks) (m ∷ ms) (ModeDiffers k m)
  other_later : {m : Mode} {ks ms : List Mode} {w : Misfit} → FirstOther ks ms w → FirstOther (m ∷ ks) (m ∷ ms) w

mutual
  -- Misses b n t w: where heads have the simple types b, w is what is wrong with the object n at the simple type t.
  pub data Misses : Assignment → PlainObject → SimpleType → Misfit → Type 0 where
    lambda_at : {b : Assignment} {m : Mode} {n : PlainObject} {t : SimpleType} → IsNoFunction t → Misses b (lam m n) t NotFunction
    lambda_mode : {b : Assignment} {m k : Mode} {n : PlainObject} {d c : SimpleType} → (k ≡ m → ⊥) → Misses b (lam m n) (arrow k d c) (ModeDiffers k m)
    in_body : {b : Assignment} {m : Mode} {n : PlainObject} {d c : SimpleType} {w : Misfit} → Misses (extended d b) n c w → Misses b (lam m n) (arrow m d c) w
    pair_at : {b : Assignment} {l r : PlainObject} {t : SimpleType} → IsNoPair t → Misses b (pair l r) t NotPair
    in_left : {b : Assignment} {l r : PlainObject} {c d : SimpleType} {w : Misfit} → Misses b l c w → Misses b (pair l r) (simple_with c d) w
    in_right : {b : Assignment} {l r : PlainObject} {c d : SimpleType} {w : Misfit} → Fits b l c → Misses b r d w → Misses b (pair l r) (simple_with c d) w
    unit_at : {b : Assignment} {t : SimpleType} → IsNoTop t → Misses b unit t NotTop
    monadic_at : {b : Assignment} {e : PlainExpression} {t : SimpleType} → IsNoMonad t → Misses b (monadic e) t NotMonad
    in_expression : {b : Assignment} {e : PlainExpression} {s : SimpleTelescope} {w : Misfit} → ExpressionMisses b e s w → Misses b (monadic e) (lax s) w
    hole_at : {b : Assignment} {t : SimpleType} → Misses b hole t NotClosed
    -- Nothing can be filled in for a metavariable that is not simply typed at its place.
    not_filled : {b : Assignment} {n : PlainNeutral} {t : SimpleType} → is_metavariable (head_of n) ≡ true → (SimplyTyped b (atomic n) t → ⊥) → Misses b (atomic n) t NotClosed
    in_neutral : {b : Assignment} {n : PlainNeutral} {t : SimpleType} {w : Misfit} → is_metavariable (head_of n) ≡ false → NeutralMisses b n w → Misses b (atomic n) t w
    atomic_at : {b : Assignment} {n : PlainNeutral} {t : SimpleType} (u : SimpleType) → NeutralFits b n u → IsNoFamily t ⊎ IsNoFamily u → Misses b (atomic n) t NotAtomic
    other_family : {b : Assignment} {n : PlainNeutral} {f g : ℕ} → NeutralFits b n (base g) → (f ≡ g → ⊥) → Misses b (atomic n) (base f) (FamilyDiffers g f)

  pub data NeutralMisses : Assignment → PlainNeutral → Misfit → Type 0 where
    unknown_constant : {b : Assignment} {c : ℕ} → b (Const c) ≡ None → NeutralMisses b (head_alone (Const c)) (UnknownHead (Const c))
    unknown_variable : {b : Assignment} {i : ℕ} → b (Var i) ≡ None → NeutralMisses b (head_alone (Var i)) (UnknownHead (Var i))
    -- A metavariable is no head of a step, nor of what stands at a family.
    metavariable_at : {b : Assignment} {m : ℕ} → NeutralMisses b (head_alone (Meta m)) NotClosed
    in_function : {b : Assignment} {m : Mode} {r : PlainNeutral} {n : PlainObject} {w : Misfit} → NeutralMisses b r w → NeutralMisses b (app m r n) w
    function_at : {b : Assignment} {m : Mode} {r : PlainNeutral} {n : PlainObject} (u : SimpleType) → NeutralFits b r u → IsNoFunction u → NeutralMisses b (app m r n) NotFunction
    argument_mode : {b : Assignment} {m k : Mode} {r : PlainNeutral} {n : PlainObject} (d c : SimpleType) → NeutralFits b r (arrow k d c) → (k ≡ m → ⊥) → NeutralMisses b (app m r n) (ModeDiffers k m)
    in_argument : {b : Assignment} {m : Mode} {r : PlainNeutral} {n : PlainObject} {w : Misfit} (d c : SimpleType) → NeutralFits b r (arrow m d c) → Misses b n d w → NeutralMisses b (app m r n) w
    in_first : {b : Assignment} {r : PlainNeutral} {w : Misfit} → NeutralMisses b r w → NeutralMisses b (fst r) w
    first_at : {b : Assignment} {r : PlainNeutral} (u : SimpleType) → NeutralFits b r u → IsNoPair u → NeutralMisses b (fst r) NotPair
    in_second : {b : Assignment} {r : PlainNeutral} {w : Misfit} → NeutralMisses b r w → NeutralMisses b (snd r) w
    second_at : {b : Assignment} {r : PlainNeutral} (u : SimpleType) → NeutralFits b r u → IsNoPair u → NeutralMisses b (snd r) NotPair

  pub data ExpressionMisses : Assignment → PlainExpression → SimpleTelescope → Misfit → Type 0 where
    in_right_side : {b : Assignment} {ms : List Mode} {r : PlainNeutral} {e : PlainExpression} {s : SimpleTelescope} {w : Misfit} → NeutralMisses b r w → ExpressionMisses b (step ms r e) s w
    step_at : {b : Assignment} {ms : List Mode} {r : PlainNeutral} {e : PlainExpression} {s : SimpleTelescope} (u : SimpleType) → NeutralFits b r u → IsNoMonad u → ExpressionMisses b (step ms r e) s NotMonad
    pattern_width : {b : Assignment} {ms : List Mode} {r : PlainNeutral} {e : PlainExpression} {s : SimpleTelescope} (u : SimpleTelescope)
        → NeutralFits b r (lax u) → (length ms ≡ length (simple_modes u) → ⊥) → ExpressionMisses b (step ms r e) s (Width (length (simple_modes u)) (length ms))
    pattern_mode : {b : Assignment} {ms : List Mode} {r : PlainNeutral} {e : PlainExpression} {s : SimpleTelescope} {w : Misfit} (u : SimpleTelescope)
        → NeutralFits b r (lax u) → length ms ≡ length (simple_modes u) → FirstOther (simple_modes u) ms w → ExpressionMisses b (step ms r e) s w
    in_rest : {b : Assignment} {r : PlainNeutral} {e : PlainExpression} {s : SimpleTelescope} {w : Misfit} (u : SimpleTelescope)
        → NeutralFits b r (lax u) → ExpressionMisses (extended_by u b) e s w → ExpressionMisses b (step (simple_modes u) r e) s w
    in_tuple : {b : Assignment} {t : PlainTuple} {s : SimpleTelescope} {w : Misfit} → TupleMisses b (widths t s) t s w → ExpressionMisses b (done t) s w

  -- v is what is wrong where the tuple and the telescope have other lengths.
  pub data TupleMisses : Assignment → Misfit → PlainTuple → SimpleTelescope → Misfit → Type 0 where
    too_short : {b : Assignment} {v : Misfit} {m : Mode} {d : SimpleType} {s : SimpleTelescope} → TupleMisses b v empty (simple_binding m d s) v
    too_long : {b : Assignment} {v : Misfit} {m : Mode} {n : PlainObject} {t : PlainTuple} → TupleMisses b v (entry m n t) simple_end v
    entry_mode : {b : Assignment} {v : Misfit} {m k : Mode} {n : PlainObject} {t : PlainTuple} {d : SimpleType} {s : SimpleTelescope}
        → (k ≡ m → ⊥) → TupleMisses b v (entry m n t) (simple_binding k d s) (ModeDiffers k m)
    in_entry : {b : Assignment} {v w : Misfit} {m : Mode} {n : PlainObject} {t : PlainTuple} {d : SimpleType} {s : SimpleTelescope}
        → Misses b n d w → TupleMisses b v (entry m n t) (simple_binding m d s) w
    in_later : {b : Assignment} {v w : Misfit} {m : Mode} {n : PlainObject} {t : PlainTuple} {d : SimpleType} {s : SimpleTelescope}
        → Fits b n d → TupleMisses b v t s w → TupleMisses b v (entry m n t) (simple_binding m d s) w

-- ---- types, telescopes, kinds and cores
-- The indices that have an argument of the kind conform.
abbrev pub SharedFit : Assignment → List PlainObject → List SimpleType → Type 0
SharedFit b (n ∷ ns) (t ∷ ts) = Fits b n t × SharedFit b ns ts
SharedFit b [] ts = Unit {0}
SharedFit b (n ∷ ns) [] = Unit {0}

pub data IndicesMisses (b : Assignment) : List PlainObject → List SimpleType → Misfit → Type 0 where
  index_here : {n : PlainObject} {ns : List PlainObject} {t : SimpleType} {ts : List SimpleType} {w : Misfit} → Misses b n t w → IndicesMisses b (n ∷ ns) (t ∷ ts) w
  index_later : {n : PlainObject} {ns : List PlainObject} {t : SimpleType} {ts : List SimpleType} {w : Misfit} → Fits b n t → IndicesMisses b ns ts w → IndicesMisses b (n ∷ ns) (t ∷ ts) w

mutual
  pub data TypeMisses (arguments : Families) : Assignment → PlainType → Misfit → Type 0 where
    unknown_family : {b : Assignment} {f : ℕ} {ns : List PlainObject} → arguments f ≡ None → TypeMisses arguments b (family f ns) (UnknownHead (Const f))
    in_indices : {b : Assignment} {f : ℕ} {ns : List PlainObject} {w : Misfit} (ts : List SimpleType) → arguments f ≡ Some ts → IndicesMisses b ns ts w → TypeMisses arguments b (family f ns) w
    family_arity : {b : Assignment} {f : ℕ} {ns : List PlainObject} (ts : List SimpleType)
        → arguments f ≡ Some ts → SharedFit b ns ts → (length ts ≡ length ns → ⊥) → TypeMisses arguments b (family f ns) (FamilyArity (length ts) (length ns))
    in_domain : {b : Assignment} {m : Mode} {a c : PlainType} {w : Misfit} → TypeMisses arguments b a w → TypeMisses arguments b (function m a c) w
    in_range : {b : Assignment} {m : Mode} {a c : PlainType} {w : Misfit} → TypeFits arguments b a → TypeMisses arguments (extended (erase a) b) c w → TypeMisses arguments b (function m a c) w
    in_left_type : {b : Assignment} {a c : PlainType} {w : Misfit} → TypeMisses arguments b a w → TypeMisses arguments b (both a c) w
    in_right_type : {b : Assignment} {a c : PlainType} {w : Misfit} → TypeFits arguments b a → TypeMisses arguments b c w → TypeMisses arguments b (both a c) w
    in_entries : {b : Assignment} {s : PlainTelescope} {w : Misfit} → TelescopeMisses arguments b s w → TypeMisses arguments b (monad s) w

  pub data TelescopeMisses (arguments : Families) : Assignment → PlainTelescope → Misfit → Type 0 where
    in_entry_type : {b : Assignment} {m : Mode} {a : PlainType} {s : PlainTelescope} {w : Misfit} → TypeMisses arguments b a w → TelescopeMisses arguments b (binding m a s) w
    in_later_types : {b : Assignment} {m : Mode} {a : PlainType} {s : PlainTelescope} {w : Misfit}
        → TypeFits arguments b a → TelescopeMisses arguments (extended (erase a) b) s w → TelescopeMisses arguments b (binding m a s) w

pub data KindMisses (arguments : Families) : Assignment → PlainKind → Misfit → Type 0 where
  in_argument_type : {b : Assignment} {a : PlainType} {k : PlainKind} {w : Misfit} → TypeMisses arguments b a w → KindMisses arguments b (a ∷ k) w
  in_later_arguments : {b : Assignment} {a : PlainType} {k : PlainKind} {w : Misfit} → TypeFits arguments b a → KindMisses arguments (extended (erase a) b) k w → KindMisses arguments b (a ∷ k) w

module _ (arguments : Families) where
  abbrev pub ClassMisses : Assignment → PlainClass → Misfit → Type 0
  ClassMisses b (family_of k) w = KindMisses arguments b k w
  ClassMisses b (constant_of a) w = TypeMisses arguments b a w

  -- A directive's type comes before its objects.
  abbrev pub CheckMisses : Assignment → PlainObject → PlainType → Misfit → Type 0
  CheckMisses b n a w = TypeMisses arguments b a w ⊎ (TypeFits arguments b a × Misses b n (erase a) w)

  abbrev pub CoreMisses : Assignment → PlainCore → Misfit → Type 0
  CoreMisses b (declares name e) w = ClassMisses b e.class w
  CoreMisses b (queries a) w = TypeMisses arguments b a w
  CoreMisses b (traces s) w = TelescopeMisses arguments b s w
  CoreMisses b (equates m n a) w = CheckMisses b m a w ⊎ ((TypeFits arguments b a × Fits b m (erase a)) × Misses b n (erase a) w)
  CoreMisses b (checks n a) w = CheckMisses b n a w
