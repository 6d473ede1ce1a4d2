-- What a refusal says: the part at its path, with its context and the row from which its check starts, and what is wrong there.
-- All of it is said in the words of the rules: of the types that objects and neutrals have under parts of a row.
use Rattle.std.specs.Prelude.{ℕ, suc, ◌+◌, ◌<◌, ◌≡◌, ◌≢◌, ◌↔◌, ◌⊎◌, Bool, true, false, not, List, [], ◌∷◌, length, take, Some, None}
use Rattle.std.specs.List.{slice_get}
use Rattle.clf_syntax.specs.declared.tree.Mode.{Mode}
use Rattle.clf_syntax.specs.declared.tree.Mode.TheVariants.{Persistent, Linear}
use Rattle.clf_syntax.specs.declared.tree.Head.{Head}
use Rattle.clf_syntax.specs.declared.tree.Head.TheVariants.{Const, Var, Meta}
use Rattle.clf_syntax.specs.Tree.{PlainObject, lam, pair, unit, monadic, atomic, hole, PlainNeutral, head_alone, app, fst, snd, PlainExpression, step, done, PlainTuple, empty, entry}
use Rattle.clf_syntax.specs.TypeTree.{PlainType, family, function, both, top, monad, PlainTelescope, end, binding, PlainKind}
use Rattle.clf_syntax.specs.Renaming.{ren_telescope, up}
use Rattle.use_contexts.specs.Context.{Context, modes, telescope_modes, with_entries}
use Rattle.use_contexts.specs.Holding.{Holding, persistent_alone, may_use, allowed, all_held}
use Rattle.use_contexts.specs.Rows.{IsSubholding}
use Rattle.hered_subst.specs.Substitution.{single, SubstitutedTelescope, SubstitutedKind}
use Rattle.trace_equal.specs.Exchange.{Joined}
use Rattle.clf_sig.specs.Entry.{PlainSignature, PlainClass, family_of, constant_of, constant_type, family_kind}
use Rattle.clf_rules.specs.Typing.{HasType, Synthesizes, ExpressionHasType}
use Rattle.clf_rules.specs.WellFormed.{IndicesHaveTypes, WellFormedType}
use Rattle.clf_rules.specs.Refusal.{Cause, not_function, not_pair, not_top, not_monad, not_atomic, not_closed, mode_differs, width, not_held, unused, pairs_differ, family_differs, index_differs, family_arity, unknown_head, level, eliminations}

-- ---- what may have a type, and what is left then

-- Under some part of the row the object has the type.
abbrev pub MayHaveType : PlainSignature → Context → Holding → PlainObject → PlainType → Type 0
MayHaveType sig g h n t = (p : Holding) × IsSubholding (modes g) h p × HasType sig g p n t

-- Under some part of the row the neutral synthesizes the type.
abbrev pub MaySynthesize : PlainSignature → Context → Holding → PlainNeutral → PlainType → Type 0
MaySynthesize sig g h r a = (p : Holding) × IsSubholding (modes g) h p × Synthesizes sig g p r a

-- Some part of the holding with the property does not hold the entry.
abbrev pub CanSpare : Context → Holding → (Holding → Type 0) → ℕ → Type 0
CanSpare g h P i = (p : Holding) × IsSubholding (modes g) h p × P p × (slice_get p i ≡ Some false)

-- Leaves g h P l: l is what is left of the holding h after what has the property P of its parts. An entry that h holds is left where it
-- is persistent, or where what has the property can spare it.
pub record Leaves (g : Context) (h : Holding) (P : Holding → Type 0) (l : Holding) : Type 0 where
  pub marked : length l ≡ length g
  pub entry : (i : ℕ) → (slice_get l i ≡ Some true) ↔ ((slice_get h i ≡ Some true) × ((slice_get (modes g) i ≡ Some Persistent) ⊎ CanSpare g h P i))

-- ---- the part at a path

-- what is checked at a path
pub data CheckedPart : Type 0 where
  -- an object at a type
  object_at : PlainObject → PlainType → CheckedPart
  -- a neutral at its last elimination, or at its head where it has none
  neutral_with : PlainNeutral → CheckedPart
  -- a step with what comes after it, and the telescope that is wanted of the result
  step_at : List Mode → PlainNeutral → PlainExpression → PlainTelescope → CheckedPart
  -- an entry of a tuple with this mode, at an entry of a telescope with that mode
  entry_at : Mode → Mode → CheckedPart
  -- what follows so many entries of a tuple, and what follows as many entries of its telescope
  rest_at : ℕ → PlainTuple → PlainTelescope → CheckedPart
  -- a type
  type_at : PlainType → CheckedPart

mutual
  -- Reaches sig g h n t path k l x: where the object n is checked against the type t, in the context g and from the row h, x stands
  -- at the path, in the context k, and its check starts from the row l. What is checked before it may have its types.
  pub data Reaches (sig : PlainSignature) : Context → Holding → PlainObject → PlainType → List ℕ → Context → Holding → CheckedPart → Type 0 where
    -- the object itself
    whole : {g : Context} {h : Holding} {n : PlainObject} {t : PlainType} → Reaches sig g h n t [] g h (object_at n t)
    -- The body of a lambda has number 0, and its variable is held.
    in_body : {g k : Context} {h l : Holding} {m : Mode} {b : PlainObject} {a c : PlainType} {path : List ℕ} {x : CheckedPart}
        → Reaches sig ((m, a) ∷ g) (true ∷ h) b c path k l x → Reaches sig g h (lam m b) (function m a c) (0 ∷ path) k l x
    -- The parts of a pair have the numbers 0 and 1, and both start from the row of the pair.
    in_left_part : {g k : Context} {h l : Holding} {o u : PlainObject} {a c : PlainType} {path : List ℕ} {x : CheckedPart}
        → Reaches sig g h o a path k l x → Reaches sig g h (pair o u) (both a c) (0 ∷ path) k l x
    in_right_part : {g k : Context} {h l : Holding} {o u : PlainObject} {a c : PlainType} {path : List ℕ} {x : CheckedPart}
        → MayHaveType sig g h o a → Reaches sig g h u c path k l x → Reaches sig g h (pair o u) (both a c) (1 ∷ path) k l x
    -- The paths of a monadic object are those of its expression.
    in_expression : {g k : Context} {h l : Holding} {e : PlainExpression} {s : PlainTelescope} {path : List ℕ} {x : CheckedPart}
        → ReachesInExpression sig g h e s 0 path k l x → Reaches sig g h (monadic e) (monad s) path k l x
    -- The paths of a neutral are those of its atomic object.
    in_neutral : {g k : Context} {h l : Holding} {r : PlainNeutral} {t : PlainType} {path : List ℕ} {x : CheckedPart}
        → ReachesInNeutral sig g h r path k l x → Reaches sig g h (atomic r) t path k l x

  -- The same in a neutral.
  pub data ReachesInNeutral (sig : PlainSignature) : Context → Holding → PlainNeutral → List ℕ → Context → Holding → CheckedPart → Type 0 where
    -- A head has no number of its own.
    at_head : {g : Context} {h : Holding} {y : Head} → ReachesInNeutral sig g h (head_alone y) [] g h (neutral_with (head_alone y))
    -- An elimination has as its number how many come before it.
    at_argument : {g : Context} {h : Holding} {m : Mode} {r : PlainNeutral} {n : PlainObject}
        → ReachesInNeutral sig g h (app m r n) (eliminations r ∷ []) g h (neutral_with (app m r n))
    at_first : {g : Context} {h : Holding} {r : PlainNeutral} → ReachesInNeutral sig g h (fst r) (eliminations r ∷ []) g h (neutral_with (fst r))
    at_second : {g : Context} {h : Holding} {r : PlainNeutral} → ReachesInNeutral sig g h (snd r) (eliminations r ∷ []) g h (neutral_with (snd r))
    -- the eliminations before it
    before_argument : {g k : Context} {h l : Holding} {m : Mode} {r : PlainNeutral} {n : PlainObject} {path : List ℕ} {x : CheckedPart}
        → ReachesInNeutral sig g h r path k l x → ReachesInNeutral sig g h (app m r n) path k l x
    before_first : {g k : Context} {h l : Holding} {r : PlainNeutral} {path : List ℕ} {x : CheckedPart}
        → ReachesInNeutral sig g h r path k l x → ReachesInNeutral sig g h (fst r) path k l x
    before_second : {g k : Context} {h l : Holding} {r : PlainNeutral} {path : List ℕ} {x : CheckedPart}
        → ReachesInNeutral sig g h r path k l x → ReachesInNeutral sig g h (snd r) path k l x
    -- An argument starts from what its mode allows of what its function leaves.
    in_argument_part : {g k : Context} {h l : Holding} {m : Mode} {r : PlainNeutral} {n : PlainObject} {path : List ℕ} {x : CheckedPart} (a c : PlainType) (left : Holding)
        → MaySynthesize sig g h r (function m a c) → Leaves g h (λ p. Synthesizes sig g p r (function m a c)) left
        → Reaches sig g (allowed m (modes g) left) n a path k l x → ReachesInNeutral sig g h (app m r n) (eliminations r ∷ path) k l x

  -- The same in an expression, whose first step has the number `place`.
  pub data ReachesInExpression (sig : PlainSignature) : Context → Holding → PlainExpression → PlainTelescope → ℕ → List ℕ → Context → Holding → CheckedPart → Type 0 where
    -- a step itself, and the parts of its right side
    at_step : {g : Context} {h : Holding} {ms : List Mode} {r : PlainNeutral} {e : PlainExpression} {s : PlainTelescope} {place : ℕ}
        → ReachesInExpression sig g h (step ms r e) s place (place ∷ []) g h (step_at ms r e s)
    in_right_side : {g k : Context} {h l : Holding} {ms : List Mode} {r : PlainNeutral} {e : PlainExpression} {s : PlainTelescope} {place : ℕ} {path : List ℕ} {x : CheckedPart}
        → ReachesInNeutral sig g h r path k l x → ReachesInExpression sig g h (step ms r e) s place (place ∷ path) k l x
    -- What comes after a step starts from what its right side leaves, with the entries of the monad held.
    in_later_steps : {g k : Context} {h l : Holding} {ms : List Mode} {r : PlainNeutral} {e : PlainExpression} {s : PlainTelescope} {place : ℕ} {path : List ℕ} {x : CheckedPart}
        (u : PlainTelescope) (left : Holding) → MaySynthesize sig g h r (monad u) → telescope_modes u ≡ ms → Leaves g h (λ p. Synthesizes sig g p r (monad u)) left
        → ReachesInExpression sig (with_entries u g) (all_held ms left) e (ren_telescope (up (length ms)) s) (suc place) path k l x
        → ReachesInExpression sig g h (step ms r e) s place path k l x
    -- The entries of the tuple have the numbers after those of the steps.
    in_tuple : {g k : Context} {h l : Holding} {t : PlainTuple} {s : PlainTelescope} {place : ℕ} {path : List ℕ} {x : CheckedPart}
        → ReachesInTuple sig g h t s place 0 path k l x → ReachesInExpression sig g h (done t) s place path k l x

  -- The same in a tuple after so many steps, from its entry with the number `before` on.
  pub data ReachesInTuple (sig : PlainSignature) : Context → Holding → PlainTuple → PlainTelescope → ℕ → ℕ → List ℕ → Context → Holding → CheckedPart → Type 0 where
    -- what is left of the tuple and of its telescope, which is said at the whole monadic object
    at_rest : {g : Context} {h : Holding} {t : PlainTuple} {s : PlainTelescope} {steps before : ℕ} → ReachesInTuple sig g h t s steps before [] g h (rest_at before t s)
    -- An entry itself, and its object, which starts from what its mode allows.
    at_entry : {g : Context} {h : Holding} {m k : Mode} {n : PlainObject} {t : PlainTuple} {a : PlainType} {u : PlainTelescope} {steps before : ℕ}
        → ReachesInTuple sig g h (entry m n t) (binding k a u) steps before ((steps + before) ∷ []) g h (entry_at m k)
    in_entry : {g k : Context} {h l : Holding} {m : Mode} {n : PlainObject} {t : PlainTuple} {a : PlainType} {u : PlainTelescope} {steps before : ℕ} {path : List ℕ} {x : CheckedPart}
        → Reaches sig g (allowed m (modes g) h) n a path k l x
        → ReachesInTuple sig g h (entry m n t) (binding m a u) steps before ((steps + before) ∷ path) k l x
    -- The later entries start from what it leaves, and it is put for its variable in their types.
    in_later_entries : {g k : Context} {h l : Holding} {m : Mode} {n : PlainObject} {t : PlainTuple} {a : PlainType} {u : PlainTelescope} {steps before : ℕ} {path : List ℕ} {x : CheckedPart}
        (v : PlainTelescope) (left : Holding) → MayHaveType sig g (allowed m (modes g) h) n a
        → Leaves g h (λ p. (may_use m (modes g) p ≡ true) × HasType sig g p n a) left → SubstitutedTelescope (single n 0) u v
        → ReachesInTuple sig g left t v steps (suc before) path k l x
        → ReachesInTuple sig g h (entry m n t) (binding m a u) steps before path k l x

-- ---- the part at a path of a type, a telescope, indices, a kind or a class

-- Indices use persistent entries alone. The index at a place has that number.
pub data ReachesInIndices (sig : PlainSignature) : Context → List PlainObject → PlainKind → ℕ → List ℕ → Context → Holding → CheckedPart → Type 0 where
  in_index : {g k : Context} {n : PlainObject} {ns : List PlainObject} {a : PlainType} {as' : PlainKind} {place : ℕ} {path : List ℕ} {l : Holding} {x : CheckedPart}
      → Reaches sig g (persistent_alone (modes g)) n a path k l x → ReachesInIndices sig g (n ∷ ns) (a ∷ as') place (place ∷ path) k l x
  in_later_index : {g k : Context} {n : PlainObject} {ns : List PlainObject} {a : PlainType} {as' bs : PlainKind} {place : ℕ} {path : List ℕ} {l : Holding} {x : CheckedPart}
      → HasType sig g (persistent_alone (modes g)) n a → SubstitutedKind (single n 0) as' bs
      → ReachesInIndices sig g ns bs (suc place) path k l x → ReachesInIndices sig g (n ∷ ns) (a ∷ as') place path k l x

mutual
  -- ReachesInType sig g a path k l x: where the type a is formed in the context g, x stands at the path. What comes before it is well formed.
  pub data ReachesInType (sig : PlainSignature) : Context → PlainType → List ℕ → Context → Holding → CheckedPart → Type 0 where
    whole_type : {g : Context} {a : PlainType} → ReachesInType sig g a [] g (persistent_alone (modes g)) (type_at a)
    -- Each index of a family has its place.
    in_indices : {g k : Context} {f : ℕ} {ns : List PlainObject} {as' : PlainKind} {path : List ℕ} {l : Holding} {x : CheckedPart}
        → family_kind sig f ≡ Some as' → ReachesInIndices sig g ns as' 0 path k l x → ReachesInType sig g (family f ns) path k l x
    -- Of a function the domain has number 0, and the range 1; of & so have its parts.
    in_domain : {g k : Context} {m : Mode} {a b : PlainType} {path : List ℕ} {l : Holding} {x : CheckedPart}
        → ReachesInType sig g a path k l x → ReachesInType sig g (function m a b) (0 ∷ path) k l x
    in_range : {g k : Context} {m : Mode} {a b : PlainType} {path : List ℕ} {l : Holding} {x : CheckedPart}
        → WellFormedType sig g a → ReachesInType sig ((m, a) ∷ g) b path k l x → ReachesInType sig g (function m a b) (1 ∷ path) k l x
    in_first_type : {g k : Context} {a b : PlainType} {path : List ℕ} {l : Holding} {x : CheckedPart}
        → ReachesInType sig g a path k l x → ReachesInType sig g (both a b) (0 ∷ path) k l x
    in_second_type : {g k : Context} {a b : PlainType} {path : List ℕ} {l : Holding} {x : CheckedPart}
        → WellFormedType sig g a → ReachesInType sig g b path k l x → ReachesInType sig g (both a b) (1 ∷ path) k l x
    -- Of a monad each entry has its place.
    in_monad : {g k : Context} {s : PlainTelescope} {path : List ℕ} {l : Holding} {x : CheckedPart}
        → ReachesInTelescope sig g s 0 path k l x → ReachesInType sig g (monad s) path k l x

  -- The same in a telescope, from its entry with the number `place` on.
  pub data ReachesInTelescope (sig : PlainSignature) : Context → PlainTelescope → ℕ → List ℕ → Context → Holding → CheckedPart → Type 0 where
    in_entry_type : {g k : Context} {m : Mode} {a : PlainType} {s : PlainTelescope} {place : ℕ} {path : List ℕ} {l : Holding} {x : CheckedPart}
        → ReachesInType sig g a path k l x → ReachesInTelescope sig g (binding m a s) place (place ∷ path) k l x
    in_later_types : {g k : Context} {m : Mode} {a : PlainType} {s : PlainTelescope} {place : ℕ} {path : List ℕ} {l : Holding} {x : CheckedPart}
        → WellFormedType sig g a → ReachesInTelescope sig ((m, a) ∷ g) s (suc place) path k l x → ReachesInTelescope sig g (binding m a s) place path k l x

-- The same in a kind, whose arguments are persistent, from its argument with the number `place` on.
pub data ReachesInKind (sig : PlainSignature) : Context → PlainKind → ℕ → List ℕ → Context → Holding → CheckedPart → Type 0 where
  in_kind_argument : {g k : Context} {a : PlainType} {as' : PlainKind} {place : ℕ} {path : List ℕ} {l : Holding} {x : CheckedPart}
      → ReachesInType sig g a path k l x → ReachesInKind sig g (a ∷ as') place (place ∷ path) k l x
  in_later_argument : {g k : Context} {a : PlainType} {as' : PlainKind} {place : ℕ} {path : List ℕ} {l : Holding} {x : CheckedPart}
      → WellFormedType sig g a → ReachesInKind sig ((Persistent, a) ∷ g) as' (suc place) path k l x → ReachesInKind sig g (a ∷ as') place path k l x

abbrev pub ReachesInClass : PlainSignature → PlainClass → List ℕ → Context → Holding → CheckedPart → Type 0
ReachesInClass sig (family_of as') path k l x = ReachesInKind sig [] as' 0 path k l x
ReachesInClass sig (constant_of a) path k l x = ReachesInType sig [] a path k l x

-- ---- what is wrong

-- The type is no function, no pair, no family, no monad.
abbrev pub IsNoFunction : PlainType → Type 0
IsNoFunction t = (m : Mode) (a c : PlainType) → t ≡ function m a c → ⊥

abbrev pub IsNoPair : PlainType → Type 0
IsNoPair t = (a c : PlainType) → t ≡ both a c → ⊥

abbrev pub IsNoFamily : PlainType → Type 0
IsNoFamily t = (f : ℕ) (ns : List PlainObject) → t ≡ family f ns → ⊥

abbrev pub IsNoMonad : PlainType → Type 0
IsNoMonad t = (s : PlainTelescope) → t ≡ monad s → ⊥

-- The variable i is linear. One of the objects has its type only under parts of the row that hold it, the other only under parts that do not.
abbrev pub DiffersAt : PlainSignature → Context → Holding → PlainObject → PlainType → PlainObject → PlainType → ℕ → Type 0
DiffersAt sig g h l a r c i = (held : Bool) × (slice_get (modes g) i ≡ Some Linear)
    × ((p : Holding) → IsSubholding (modes g) h p → HasType sig g p l a → slice_get p i ≡ Some held)
    × ((p : Holding) → IsSubholding (modes g) h p → HasType sig g p r c → slice_get p i ≡ Some (not held))

-- how many entries a tuple and a telescope have
abbrev pub tuple_width : PlainTuple → ℕ
tuple_width empty = 0
tuple_width (entry m n t) = suc (tuple_width t)

abbrev pub telescope_width : PlainTelescope → ℕ
telescope_width s = length (telescope_modes s)

-- The modes at a place are these two, which differ, and those before it are the same.
pub record FirstModes (wanted found : List Mode) (k m : Mode) : Type 0 where
  pub place : ℕ
  pub wanted_there : slice_get wanted place ≡ Some k
  pub found_there : slice_get found place ≡ Some m
  pub differ : k ≢ m
  pub same_before : take place wanted ≡ take place found

-- The indices at a place are these two, which are not joined, and those before it are joined.
pub record FirstIndices (found wanted : List PlainObject) (o n : PlainObject) : Type 0 where
  pub place : ℕ
  pub found_there : slice_get found place ≡ Some o
  pub wanted_there : slice_get wanted place ≡ Some n
  pub differ : Joined o n → ⊥
  pub joined_before : (i : ℕ) (u v : PlainObject) → i < place → slice_get found i ≡ Some u → slice_get wanted i ≡ Some v → Joined u v

-- IsIdle sig g u h e s i: the variable i, one of the entries of u, is linear, and no part of the row with all these entries held under
-- which the expression has its result holds it.
pub record IsIdle (sig : PlainSignature) (g : Context) (u : PlainTelescope) (h : Holding) (e : PlainExpression) (s : PlainTelescope) (i : ℕ) : Type 0 where
  pub entry : i < telescope_width u
  pub linear : slice_get (modes (with_entries u g)) i ≡ Some Linear
  pub spared : (p : Holding) → IsSubholding (modes (with_entries u g)) (all_held (telescope_modes u) h) p → ExpressionHasType sig (with_entries u g) p e s → slice_get p i ≡ Some false

-- Refuses sig g h x why: in the context g and from the row h, the part x is refused for this cause.
pub data Refuses (sig : PlainSignature) : Context → Holding → CheckedPart → Cause → Type 0 where
  -- A lambda stands at no function, or what an argument is put to is none.
  lambda_at_none : {g : Context} {h : Holding} {m : Mode} {b : PlainObject} {t : PlainType}
      → IsNoFunction t → Refuses sig g h (object_at (lam m b) t) (not_function t)
  argument_to_none : {g : Context} {h : Holding} {m : Mode} {r : PlainNeutral} {n : PlainObject} {t : PlainType}
      → MaySynthesize sig g h r t → IsNoFunction t → Refuses sig g h (neutral_with (app m r n)) (not_function t)
  -- A pair stands at no pair, or a projection is taken of none.
  pair_at_none : {g : Context} {h : Holding} {l r : PlainObject} {t : PlainType}
      → IsNoPair t → Refuses sig g h (object_at (pair l r) t) (not_pair t)
  first_of_none : {g : Context} {h : Holding} {r : PlainNeutral} {t : PlainType}
      → MaySynthesize sig g h r t → IsNoPair t → Refuses sig g h (neutral_with (fst r)) (not_pair t)
  second_of_none : {g : Context} {h : Holding} {r : PlainNeutral} {t : PlainType}
      → MaySynthesize sig g h r t → IsNoPair t → Refuses sig g h (neutral_with (snd r)) (not_pair t)
  -- <> stands at another type than <T>.
  unit_at_none : {g : Context} {h : Holding} {t : PlainType}
      → (t ≡ top → ⊥) → Refuses sig g h (object_at unit t) (not_top t)
  -- A monadic object stands at no monad, or a step's right side has none.
  monadic_at_none : {g : Context} {h : Holding} {e : PlainExpression} {t : PlainType}
      → IsNoMonad t → Refuses sig g h (object_at (monadic e) t) (not_monad t)
  step_of_none : {g : Context} {h : Holding} {ms : List Mode} {r : PlainNeutral} {e : PlainExpression} {s : PlainTelescope} {t : PlainType}
      → MaySynthesize sig g h r t → IsNoMonad t → Refuses sig g h (step_at ms r e s) (not_monad t)
  -- A neutral stands at no family, or its own type is none where a family is wanted.
  neutral_at_none : {g : Context} {h : Holding} {r : PlainNeutral} {t : PlainType} (a : PlainType)
      → MaySynthesize sig g h r a → IsNoFamily t → Refuses sig g h (object_at (atomic r) t) (not_atomic t)
  neutral_of_none : {g : Context} {h : Holding} {r : PlainNeutral} {f : ℕ} {ns : List PlainObject} {a : PlainType}
      → MaySynthesize sig g h r a → IsNoFamily a → Refuses sig g h (object_at (atomic r) (family f ns)) (not_atomic a)
  -- a hole or a metavariable
  hole_stands : {g : Context} {h : Holding} {t : PlainType} → Refuses sig g h (object_at hole t) not_closed
  metavariable_stands : {g : Context} {h : Holding} {k : ℕ} → Refuses sig g h (neutral_with (head_alone (Meta k))) not_closed
  -- A lambda, an argument, a pattern or an entry of a tuple has another mode than its type.
  lambda_differs : {g : Context} {h : Holding} {m k : Mode} {b : PlainObject} {a c : PlainType}
      → (k ≡ m → ⊥) → Refuses sig g h (object_at (lam m b) (function k a c)) (mode_differs k m)
  argument_differs : {g : Context} {h : Holding} {m k : Mode} {r : PlainNeutral} {n : PlainObject} (a c : PlainType)
      → MaySynthesize sig g h r (function k a c) → (k ≡ m → ⊥) → Refuses sig g h (neutral_with (app m r n)) (mode_differs k m)
  pattern_differs : {g : Context} {h : Holding} {ms : List Mode} {r : PlainNeutral} {e : PlainExpression} {s : PlainTelescope} {k m : Mode} (u : PlainTelescope)
      → MaySynthesize sig g h r (monad u) → length ms ≡ telescope_width u → FirstModes (telescope_modes u) ms k m → Refuses sig g h (step_at ms r e s) (mode_differs k m)
  entry_differs : {g : Context} {h : Holding} {m k : Mode} → (k ≡ m → ⊥) → Refuses sig g h (entry_at m k) (mode_differs k m)
  -- A pattern or a tuple has another length than its telescope. Of a tuple that is said after the entries that have a type.
  pattern_width : {g : Context} {h : Holding} {ms : List Mode} {r : PlainNeutral} {e : PlainExpression} {s : PlainTelescope} (u : PlainTelescope)
      → MaySynthesize sig g h r (monad u) → length ms ≢ telescope_width u → Refuses sig g h (step_at ms r e s) (width (telescope_width u) (length ms))
  tuple_too_short : {g : Context} {h : Holding} {before : ℕ} {m : Mode} {a : PlainType} {s : PlainTelescope}
      → Refuses sig g h (rest_at before empty (binding m a s)) (width (before + telescope_width (binding m a s)) before)
  tuple_too_long : {g : Context} {h : Holding} {before : ℕ} {m : Mode} {n : PlainObject} {t : PlainTuple}
      → Refuses sig g h (rest_at before (entry m n t) end) (width before (before + tuple_width (entry m n t)))
  -- A linear or affine variable is not held.
  variable_not_held : {g : Context} {h : Holding} {i : ℕ} (m : Mode) (a : PlainType)
      → slice_get g i ≡ Some (m, a) → slice_get h i ≡ Some false → Refuses sig g h (neutral_with (head_alone (Var i))) (not_held (level g i))
  -- No part under which a lambda's body has its type holds its linear variable.
  variable_unused : {g : Context} {h : Holding} {b : PlainObject} {a c : PlainType}
      → MayHaveType sig ((Linear, a) ∷ g) (true ∷ h) b c
      → ((p : Holding) → IsSubholding (Linear ∷ modes g) (true ∷ h) p → HasType sig ((Linear, a) ∷ g) p b c → slice_get p 0 ≡ Some false)
      → Refuses sig g h (object_at (lam Linear b) (function Linear a c)) (unused (suc (length g)))
  -- No part under which what follows a step has its result holds a linear variable of the step, and it is the newest such one.
  step_unused : {g : Context} {h : Holding} {ms : List Mode} {r : PlainNeutral} {e : PlainExpression} {s : PlainTelescope} {i : ℕ} (u : PlainTelescope) (left : Holding) (p : Holding)
      → MaySynthesize sig g h r (monad u) → telescope_modes u ≡ ms → Leaves g h (λ q. Synthesizes sig g q r (monad u)) left
      → IsSubholding (modes (with_entries u g)) (all_held ms left) p → ExpressionHasType sig (with_entries u g) p e (ren_telescope (up (length ms)) s)
      → IsIdle sig g u left e (ren_telescope (up (length ms)) s) i → ((j : ℕ) → j < i → IsIdle sig g u left e (ren_telescope (up (length ms)) s) j → ⊥)
      → Refuses sig g h (step_at ms r e s) (unused (level (with_entries u g) i))
  -- The parts of a pair differ at a variable, and at no newer one.
  parts_differ : {g : Context} {h : Holding} {l r : PlainObject} {a c : PlainType} {i : ℕ}
      → MayHaveType sig g h l a → MayHaveType sig g h r c → DiffersAt sig g h l a r c i → ((j : ℕ) → j < i → DiffersAt sig g h l a r c j → ⊥)
      → Refuses sig g h (object_at (pair l r) (both a c)) (pairs_differ (level g i))
  -- The neutral has another family than the wanted one, or the family at another index.
  other_family : {g : Context} {h : Holding} {r : PlainNeutral} {wanted found : ℕ} {ns : List PlainObject} (os : List PlainObject)
      → MaySynthesize sig g h r (family found os) → (wanted ≡ found → ⊥) → Refuses sig g h (object_at (atomic r) (family wanted ns)) (family_differs found wanted)
  other_index : {g : Context} {h : Holding} {r : PlainNeutral} {f : ℕ} {ns : List PlainObject} {o n : PlainObject} (os : List PlainObject)
      → MaySynthesize sig g h r (family f os) → FirstIndices os ns o n → Refuses sig g h (object_at (atomic r) (family f ns)) (index_differs (length g) o n)
  -- The context has no such variable, or the signature no such constant or family.
  no_variable : {g : Context} {h : Holding} {i : ℕ} → slice_get g i ≡ None → Refuses sig g h (neutral_with (head_alone (Var i))) (unknown_head (Var i))
  no_constant : {g : Context} {h : Holding} {k : ℕ} → constant_type sig k ≡ None → Refuses sig g h (neutral_with (head_alone (Const k))) (unknown_head (Const k))
  no_family : {g : Context} {h : Holding} {f : ℕ} {ns : List PlainObject} → family_kind sig f ≡ None → Refuses sig g h (type_at (family f ns)) (unknown_head (Const f))
  -- A family has another number of indices than its kind has arguments, and those that have an argument have its type.
  other_arity : {g : Context} {h : Holding} {f : ℕ} {ns : List PlainObject} {as' : PlainKind}
      → family_kind sig f ≡ Some as' → length as' ≢ length ns → IndicesHaveTypes sig g (take (length as') ns) (take (length ns) as')
      → Refuses sig g h (type_at (family f ns)) (family_arity (length as') (length ns))

-- ---- refusals

-- At the path stands a part that is refused for the cause.
abbrev pub ExplainedAt : PlainSignature → Context → Holding → PlainObject → PlainType → List ℕ → Cause → Type 0
ExplainedAt sig g h n t path why = (k : Context) × (l : Holding) × (x : CheckedPart) × Reaches sig g h n t path k l x × Refuses sig k l x why

abbrev pub ExplainedInNeutral : PlainSignature → Context → Holding → PlainNeutral → List ℕ → Cause → Type 0
ExplainedInNeutral sig g h r path why = (k : Context) × (l : Holding) × (x : CheckedPart) × ReachesInNeutral sig g h r path k l x × Refuses sig k l x why

abbrev pub ExplainedInType : PlainSignature → Context → PlainType → List ℕ → Cause → Type 0
ExplainedInType sig g a path why = (k : Context) × (l : Holding) × (x : CheckedPart) × ReachesInType sig g a path k l x × Refuses sig k l x why

abbrev pub ExplainedInClass : PlainSignature → PlainClass → List ℕ → Cause → Type 0
ExplainedInClass sig c path why = (k : Context) × (l : Holding) × (x : CheckedPart) × ReachesInClass sig c path k l x × Refuses sig k l x why

abbrev pub ExplainedInKind : PlainSignature → Context → PlainKind → List ℕ → Cause → Type 0
ExplainedInKind sig g as' path why = (k : Context) × (l : Holding) × (x : CheckedPart) × ReachesInKind sig g as' 0 path k l x × Refuses sig k l x why
