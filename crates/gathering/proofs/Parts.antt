-- The rules as tuples: the premises of each rule in order, and back.
use Rattle.std.specs.Prelude.{Bool, List, None, Some, [], false, true, ℕ, ◌++◌, ◌≡◌, ◌⊎◌}
use Rattle.clf_syntax.specs.Simple.{Assignment, SimplyTyped, erase, extended_over, simple_modes}
use Rattle.clf_syntax.specs.Tree.{PlainNeutral, PlainObject, atomic, head_of}
use Rattle.clf_syntax.specs.TypeTree.{PlainKind, PlainTelescope, PlainType, SimpleTelescope, SimpleType, arrow, base, binding, both, family, function, lax, monad, simple_binding, simple_with}
use Rattle.clf_syntax.specs.declared.tree.Head.TheVariants.{Meta}
use Rattle.clf_syntax.specs.declared.tree.Mode.{Mode}
use Rattle.use_contexts.specs.Context.{Context, modes, telescope_modes}
use Rattle.use_contexts.specs.Holding.{Holding, Split, is_persistent, may_use, persistent_alone}
use Rattle.clf_sig.specs.Entry.{PlainSignature}
use Rattle.hered_subst.specs.Substitution.{SubstitutedKind, SubstitutedTelescope, SubstitutedType, single}
use Rattle.trace_equal.specs.Exchange.{JoinedEach}
use Rattle.pattern_laws.specs.Equations.{Equation}
use Rattle.clf_rules.specs.Typing.{ApplicationRule, AtomicRule, HasType, LambdaRule, PairRule, StepRule, TupleEntryRule}
use Rattle.clf_rules.specs.WellFormed.{IndexRule}
use Rattle.gathering.specs.Conform.{ApplicationConforms, EntryConforms, FilledConforms, LambdaConforms, LeafConforms, MonadicConforms, PairConforms, PartConforms, StepConforms}
use Rattle.gathering.specs.Gather.{ApplicationGathers, EntryGathers, FilledIn, LambdaGathers, LeafGathers, MonadicGathers, PairGathers, PartGathers, StepGathers}
use Rattle.gathering.specs.Items.{InOrder, IndexGathers}
use Rattle.gathering.specs.Setting.{Pairs, Setting, simple_locals}
use Rattle.gathering.specs.Shape.{EntryShape, EntryShapes, FunctionShape, Shape, an_entry, at_both, at_function, at_monad}
use Rattle.gathering.specs.Spend.{ApplicationSpends, EntrySpends, LambdaSpends, PairSpends, StepSpends}

pub lambda_rule_parts : {m : Mode} {t : PlainType} {Body : PlainType → PlainType → Type 0} → LambdaRule m t Body → (domain : PlainType) × (range : PlainType) × (type : t ≡ function m domain range) × Body domain range
lambda_rule_parts p = (p.domain, p.range, p.type, p.body)

pub to_lambda_rule : {m : Mode} {t : PlainType} {Body : PlainType → PlainType → Type 0} → (domain : PlainType) × (range : PlainType) × (type : t ≡ function m domain range) × Body domain range → LambdaRule m t Body
to_lambda_rule p = record { domain = p.0; range = p.1; type = p.2; body = p.3 }

pub pair_rule_parts : {t : PlainType} {Left Right : PlainType → Type 0} → PairRule t Left Right → (left_type : PlainType) × (right_type : PlainType) × (type : t ≡ both left_type right_type) × (left : Left left_type) × Right right_type
pair_rule_parts p = (p.left_type, p.right_type, p.type, p.left, p.right)

pub to_pair_rule : {t : PlainType} {Left Right : PlainType → Type 0} → (left_type : PlainType) × (right_type : PlainType) × (type : t ≡ both left_type right_type) × (left : Left left_type) × Right right_type → PairRule t Left Right
to_pair_rule p = record { left_type = p.0; right_type = p.1; type = p.2; left = p.3; right = p.4 }

pub atomic_rule_parts : {t : PlainType} {Neutral : PlainType → Type 0} → AtomicRule t Neutral → (number : ℕ) × (wanted : List PlainObject) × (found : List PlainObject) × (type : t ≡ family number wanted) × (neutral : Neutral (family number found)) × JoinedEach found wanted
atomic_rule_parts p = (p.number, p.wanted, p.found, p.type, p.neutral, p.indices)

pub to_atomic_rule : {t : PlainType} {Neutral : PlainType → Type 0} → (number : ℕ) × (wanted : List PlainObject) × (found : List PlainObject) × (type : t ≡ family number wanted) × (neutral : Neutral (family number found)) × JoinedEach found wanted → AtomicRule t Neutral
to_atomic_rule p = record { number = p.0; wanted = p.1; found = p.2; type = p.3; neutral = p.4; indices = p.5 }

pub application_rule_parts : {g : Context} {h : Holding} {m : Mode} {n : PlainObject} {t : PlainType} {Function Argument : Holding → PlainType → Type 0} → ApplicationRule g h m n t Function Argument → (domain : PlainType) × (range : PlainType) × (for_function : Holding) × (for_argument : Holding) × (split : Split (modes g) h for_function for_argument) × (applied : Function for_function (function m domain range)) × (usable : may_use m (modes g) for_argument ≡ true) × (argument : Argument for_argument domain) × SubstitutedType (single n 0) range t
application_rule_parts p = (p.domain, p.range, p.for_function, p.for_argument, p.split, p.applied, p.usable, p.argument, p.type)

pub to_application_rule : {g : Context} {h : Holding} {m : Mode} {n : PlainObject} {t : PlainType} {Function Argument : Holding → PlainType → Type 0} → (domain : PlainType) × (range : PlainType) × (for_function : Holding) × (for_argument : Holding) × (split : Split (modes g) h for_function for_argument) × (applied : Function for_function (function m domain range)) × (usable : may_use m (modes g) for_argument ≡ true) × (argument : Argument for_argument domain) × SubstitutedType (single n 0) range t → ApplicationRule g h m n t Function Argument
to_application_rule p = record { domain = p.0; range = p.1; for_function = p.2; for_argument = p.3; split = p.4; applied = p.5; usable = p.6; argument = p.7; type = p.8 }

pub step_rule_parts : {g : Context} {h : Holding} {ms : List Mode} {Right : Holding → PlainType → Type 0} {Rest : PlainTelescope → Holding → Type 0} → StepRule g h ms Right Rest → (entries : PlainTelescope) × (for_right : Holding) × (for_rest : Holding) × (split : Split (modes g) h for_right for_rest) × (right : Right for_right (monad entries)) × (pattern : telescope_modes entries ≡ ms) × Rest entries for_rest
step_rule_parts p = (p.entries, p.for_right, p.for_rest, p.split, p.right, p.pattern, p.rest)

pub to_step_rule : {g : Context} {h : Holding} {ms : List Mode} {Right : Holding → PlainType → Type 0} {Rest : PlainTelescope → Holding → Type 0} → (entries : PlainTelescope) × (for_right : Holding) × (for_rest : Holding) × (split : Split (modes g) h for_right for_rest) × (right : Right for_right (monad entries)) × (pattern : telescope_modes entries ≡ ms) × Rest entries for_rest → StepRule g h ms Right Rest
to_step_rule p = record { entries = p.0; for_right = p.1; for_rest = p.2; split = p.3; right = p.4; pattern = p.5; rest = p.6 }

pub tuple_entry_rule_parts : {g : Context} {h : Holding} {m : Mode} {n : PlainObject} {s : PlainTelescope} {First : Holding → PlainType → Type 0} {Later : Holding → PlainTelescope → Type 0} → TupleEntryRule g h m n s First Later → (first_type : PlainType) × (later_types : PlainTelescope) × (after_put : PlainTelescope) × (for_first : Holding) × (for_later : Holding) × (type : s ≡ binding m first_type later_types) × (split : Split (modes g) h for_first for_later) × (usable : may_use m (modes g) for_first ≡ true) × (first : First for_first first_type) × (put : SubstitutedTelescope (single n 0) later_types after_put) × Later for_later after_put
tuple_entry_rule_parts p = (p.first_type, p.later_types, p.after_put, p.for_first, p.for_later, p.type, p.split, p.usable, p.first, p.put, p.later)

pub to_tuple_entry_rule : {g : Context} {h : Holding} {m : Mode} {n : PlainObject} {s : PlainTelescope} {First : Holding → PlainType → Type 0} {Later : Holding → PlainTelescope → Type 0} → (first_type : PlainType) × (later_types : PlainTelescope) × (after_put : PlainTelescope) × (for_first : Holding) × (for_later : Holding) × (type : s ≡ binding m first_type later_types) × (split : Split (modes g) h for_first for_later) × (usable : may_use m (modes g) for_first ≡ true) × (first : First for_first first_type) × (put : SubstitutedTelescope (single n 0) later_types after_put) × Later for_later after_put → TupleEntryRule g h m n s First Later
to_tuple_entry_rule p = record { first_type = p.0; later_types = p.1; after_put = p.2; for_first = p.3; for_later = p.4; type = p.5; split = p.6; usable = p.7; first = p.8; put = p.9; later = p.10 }

pub index_rule_parts : {sig : PlainSignature} {g : Context} {n : PlainObject} {a : PlainType} {k : PlainKind} {Later : PlainKind → Type 0} → IndexRule sig g n a k Later → (after_put : PlainKind) × (index : HasType sig g (persistent_alone (modes g)) n a) × (put : SubstitutedKind (single n 0) k after_put) × Later after_put
index_rule_parts p = (p.after_put, p.index, p.put, p.later)

pub to_index_rule : {sig : PlainSignature} {g : Context} {n : PlainObject} {a : PlainType} {k : PlainKind} {Later : PlainKind → Type 0} → (after_put : PlainKind) × (index : HasType sig g (persistent_alone (modes g)) n a) × (put : SubstitutedKind (single n 0) k after_put) × Later after_put → IndexRule sig g n a k Later
to_index_rule p = record { after_put = p.0; index = p.1; put = p.2; later = p.3 }

pub lambda_gathers_parts : {m : Mode} {t : PlainType} {o : Shape} {Body : PlainType → PlainType → Shape → Shape → Type 0} → LambdaGathers m t o Body → (domain : PlainType) × (range : PlainType) × (passed : Bool) × (domain_shape : Shape) × (range_shape : Shape) × (type : t ≡ function m domain range) × (shape : o ≡ at_function passed domain_shape range_shape) × Body domain range domain_shape range_shape
lambda_gathers_parts p = (p.domain, p.range, p.passed, p.domain_shape, p.range_shape, p.type, p.shape, p.body)

pub to_lambda_gathers : {m : Mode} {t : PlainType} {o : Shape} {Body : PlainType → PlainType → Shape → Shape → Type 0} → (domain : PlainType) × (range : PlainType) × (passed : Bool) × (domain_shape : Shape) × (range_shape : Shape) × (type : t ≡ function m domain range) × (shape : o ≡ at_function passed domain_shape range_shape) × Body domain range domain_shape range_shape → LambdaGathers m t o Body
to_lambda_gathers p = record { domain = p.0; range = p.1; passed = p.2; domain_shape = p.3; range_shape = p.4; type = p.5; shape = p.6; body = p.7 }

pub pair_gathers_parts : {t : PlainType} {o : Shape} {q : List Equation} {Left Right : PlainType → Shape → List Equation → Type 0} → PairGathers t o q Left Right → (left_type : PlainType) × (right_type : PlainType) × (left_shape : Shape) × (right_shape : Shape) × (of_left : List Equation) × (of_right : List Equation) × (type : t ≡ both left_type right_type) × (shape : o ≡ at_both left_shape right_shape) × (left : Left left_type left_shape of_left) × (right : Right right_type right_shape of_right) × q ≡ of_left ++ of_right
pair_gathers_parts p = (p.left_type, p.right_type, p.left_shape, p.right_shape, p.of_left, p.of_right, p.type, p.shape, p.left, p.right, p.equations)

pub to_pair_gathers : {t : PlainType} {o : Shape} {q : List Equation} {Left Right : PlainType → Shape → List Equation → Type 0} → (left_type : PlainType) × (right_type : PlainType) × (left_shape : Shape) × (right_shape : Shape) × (of_left : List Equation) × (of_right : List Equation) × (type : t ≡ both left_type right_type) × (shape : o ≡ at_both left_shape right_shape) × (left : Left left_type left_shape of_left) × (right : Right right_type right_shape of_right) × q ≡ of_left ++ of_right → PairGathers t o q Left Right
to_pair_gathers p = record { left_type = p.0; right_type = p.1; left_shape = p.2; right_shape = p.3; of_left = p.4; of_right = p.5; type = p.6; shape = p.7; left = p.8; right = p.9; equations = p.10 }

pub monadic_gathers_parts : {t : PlainType} {o : Shape} {Body : PlainTelescope → EntryShapes → Type 0} → MonadicGathers t o Body → (entries : PlainTelescope) × (entry_shapes : EntryShapes) × (type : t ≡ monad entries) × (shape : o ≡ at_monad entry_shapes) × Body entries entry_shapes
monadic_gathers_parts p = (p.entries, p.entry_shapes, p.type, p.shape, p.body)

pub to_monadic_gathers : {t : PlainType} {o : Shape} {Body : PlainTelescope → EntryShapes → Type 0} → (entries : PlainTelescope) × (entry_shapes : EntryShapes) × (type : t ≡ monad entries) × (shape : o ≡ at_monad entry_shapes) × Body entries entry_shapes → MonadicGathers t o Body
to_monadic_gathers p = record { entries = p.0; entry_shapes = p.1; type = p.2; shape = p.3; body = p.4 }

pub leaf_gathers_parts : {z : Setting} {g : Context} {t : PlainType} {q : List Equation} {Neutral : PlainType → Shape → List Equation → Type 0} → LeafGathers z g t q Neutral → (number : ℕ) × (wanted : List PlainObject) × (found : List PlainObject) × (types : List SimpleType) × (found_shape : Shape) × (of_neutral : List Equation) × (of_indices : List Equation) × (type : t ≡ family number wanted) × (neutral : Neutral (family number found) found_shape of_neutral) × (arguments : z.arguments number ≡ Some types) × (pairs : Pairs (simple_locals g) types found wanted of_indices) × q ≡ of_neutral ++ of_indices
leaf_gathers_parts p = (p.number, p.wanted, p.found, p.types, p.found_shape, p.of_neutral, p.of_indices, p.type, p.neutral, p.arguments, p.pairs, p.equations)

pub to_leaf_gathers : {z : Setting} {g : Context} {t : PlainType} {q : List Equation} {Neutral : PlainType → Shape → List Equation → Type 0} → (number : ℕ) × (wanted : List PlainObject) × (found : List PlainObject) × (types : List SimpleType) × (found_shape : Shape) × (of_neutral : List Equation) × (of_indices : List Equation) × (type : t ≡ family number wanted) × (neutral : Neutral (family number found) found_shape of_neutral) × (arguments : z.arguments number ≡ Some types) × (pairs : Pairs (simple_locals g) types found wanted of_indices) × q ≡ of_neutral ++ of_indices → LeafGathers z g t q Neutral
to_leaf_gathers p = record { number = p.0; wanted = p.1; found = p.2; types = p.3; found_shape = p.4; of_neutral = p.5; of_indices = p.6; type = p.7; neutral = p.8; arguments = p.9; pairs = p.10; equations = p.11 }

pub filled_in_parts : {z : Setting} {g : Context} {n : PlainNeutral} {t : PlainType} {q : List Equation} → FilledIn z g n t q → (number : ℕ) × (fills : z.fills ≡ true) × (head : head_of n ≡ Meta number) × (not_implicit : z.implicit number ≡ None) × (typed : SimplyTyped (extended_over g z.simple) (atomic n) (erase t)) × q ≡ []
filled_in_parts p = (p.number, p.fills, p.head, p.not_implicit, p.typed, p.equations)

pub to_filled_in : {z : Setting} {g : Context} {n : PlainNeutral} {t : PlainType} {q : List Equation} → (number : ℕ) × (fills : z.fills ≡ true) × (head : head_of n ≡ Meta number) × (not_implicit : z.implicit number ≡ None) × (typed : SimplyTyped (extended_over g z.simple) (atomic n) (erase t)) × q ≡ [] → FilledIn z g n t q
to_filled_in p = record { number = p.0; fills = p.1; head = p.2; not_implicit = p.3; typed = p.4; equations = p.5 }

pub application_gathers_parts : {z : Setting} {g : Context} {m : Mode} {n : PlainObject} {t : PlainType} {o : Shape} {q : List Equation} {Function Argument : PlainType → Shape → List Equation → Type 0} → ApplicationGathers z g m n t o q Function Argument → (domain : PlainType) × (range : PlainType) × (passed : Bool) × (domain_shape : Shape) × (of_function : List Equation) × (of_argument : List Equation) × (applied : Function (function m domain range) (at_function passed domain_shape o) of_function) × (argument : PartGathers z g passed n domain of_argument (Argument domain domain_shape of_argument)) × (type : SubstitutedType (single n 0) range t) × q ≡ of_function ++ of_argument
application_gathers_parts p = (p.domain, p.range, p.passed, p.domain_shape, p.of_function, p.of_argument, p.applied, p.argument, p.type, p.equations)

pub to_application_gathers : {z : Setting} {g : Context} {m : Mode} {n : PlainObject} {t : PlainType} {o : Shape} {q : List Equation} {Function Argument : PlainType → Shape → List Equation → Type 0} → (domain : PlainType) × (range : PlainType) × (passed : Bool) × (domain_shape : Shape) × (of_function : List Equation) × (of_argument : List Equation) × (applied : Function (function m domain range) (at_function passed domain_shape o) of_function) × (argument : PartGathers z g passed n domain of_argument (Argument domain domain_shape of_argument)) × (type : SubstitutedType (single n 0) range t) × q ≡ of_function ++ of_argument → ApplicationGathers z g m n t o q Function Argument
to_application_gathers p = record { domain = p.0; range = p.1; passed = p.2; domain_shape = p.3; of_function = p.4; of_argument = p.5; applied = p.6; argument = p.7; type = p.8; equations = p.9 }

pub step_gathers_parts : {ms : List Mode} {q : List Equation} {Right : PlainType → Shape → List Equation → Type 0} {Rest : PlainTelescope → EntryShapes → List Equation → Type 0} → StepGathers ms q Right Rest → (entries : PlainTelescope) × (entry_shapes : EntryShapes) × (of_right : List Equation) × (of_rest : List Equation) × (right : Right (monad entries) (at_monad entry_shapes) of_right) × (pattern : telescope_modes entries ≡ ms) × (rest : Rest entries entry_shapes of_rest) × q ≡ of_right ++ of_rest
step_gathers_parts p = (p.entries, p.entry_shapes, p.of_right, p.of_rest, p.right, p.pattern, p.rest, p.equations)

pub to_step_gathers : {ms : List Mode} {q : List Equation} {Right : PlainType → Shape → List Equation → Type 0} {Rest : PlainTelescope → EntryShapes → List Equation → Type 0} → (entries : PlainTelescope) × (entry_shapes : EntryShapes) × (of_right : List Equation) × (of_rest : List Equation) × (right : Right (monad entries) (at_monad entry_shapes) of_right) × (pattern : telescope_modes entries ≡ ms) × (rest : Rest entries entry_shapes of_rest) × q ≡ of_right ++ of_rest → StepGathers ms q Right Rest
to_step_gathers p = record { entries = p.0; entry_shapes = p.1; of_right = p.2; of_rest = p.3; right = p.4; pattern = p.5; rest = p.6; equations = p.7 }

pub entry_gathers_parts : {z : Setting} {g : Context} {m : Mode} {n : PlainObject} {s : PlainTelescope} {v : EntryShapes} {q : List Equation} {First : PlainType → Shape → List Equation → Type 0} {Later : PlainTelescope → EntryShapes → List Equation → Type 0} → EntryGathers z g m n s v q First Later → (first_type : PlainType) × (later_types : PlainTelescope) × (after_put : PlainTelescope) × (passed : Bool) × (first_shape : Shape) × (later_shapes : EntryShapes) × (of_first : List Equation) × (of_later : List Equation) × (type : s ≡ binding m first_type later_types) × (shape : v ≡ an_entry passed first_shape later_shapes) × (first : PartGathers z g passed n first_type of_first (First first_type first_shape of_first)) × (put : SubstitutedTelescope (single n 0) later_types after_put) × (later : Later after_put later_shapes of_later) × q ≡ of_first ++ of_later
entry_gathers_parts p = (p.first_type, p.later_types, p.after_put, p.passed, p.first_shape, p.later_shapes, p.of_first, p.of_later, p.type, p.shape, p.first, p.put, p.later, p.equations)

pub to_entry_gathers : {z : Setting} {g : Context} {m : Mode} {n : PlainObject} {s : PlainTelescope} {v : EntryShapes} {q : List Equation} {First : PlainType → Shape → List Equation → Type 0} {Later : PlainTelescope → EntryShapes → List Equation → Type 0} → (first_type : PlainType) × (later_types : PlainTelescope) × (after_put : PlainTelescope) × (passed : Bool) × (first_shape : Shape) × (later_shapes : EntryShapes) × (of_first : List Equation) × (of_later : List Equation) × (type : s ≡ binding m first_type later_types) × (shape : v ≡ an_entry passed first_shape later_shapes) × (first : PartGathers z g passed n first_type of_first (First first_type first_shape of_first)) × (put : SubstitutedTelescope (single n 0) later_types after_put) × (later : Later after_put later_shapes of_later) × q ≡ of_first ++ of_later → EntryGathers z g m n s v q First Later
to_entry_gathers p = record { first_type = p.0; later_types = p.1; after_put = p.2; passed = p.3; first_shape = p.4; later_shapes = p.5; of_first = p.6; of_later = p.7; type = p.8; shape = p.9; first = p.10; put = p.11; later = p.12; equations = p.13 }

pub lambda_spends_parts : {o : Shape} {Body : Shape → Shape → Type 0} → LambdaSpends o Body → (passed : Bool) × (domain_shape : Shape) × (range_shape : Shape) × (shape : o ≡ at_function passed domain_shape range_shape) × Body domain_shape range_shape
lambda_spends_parts p = (p.passed, p.domain_shape, p.range_shape, p.shape, p.body)

pub to_lambda_spends : {o : Shape} {Body : Shape → Shape → Type 0} → (passed : Bool) × (domain_shape : Shape) × (range_shape : Shape) × (shape : o ≡ at_function passed domain_shape range_shape) × Body domain_shape range_shape → LambdaSpends o Body
to_lambda_spends p = record { passed = p.0; domain_shape = p.1; range_shape = p.2; shape = p.3; body = p.4 }

pub pair_spends_parts : {o : Shape} {Left Right : Shape → Type 0} → PairSpends o Left Right → (left_shape : Shape) × (right_shape : Shape) × (shape : o ≡ at_both left_shape right_shape) × (left : Left left_shape) × Right right_shape
pair_spends_parts p = (p.left_shape, p.right_shape, p.shape, p.left, p.right)

pub to_pair_spends : {o : Shape} {Left Right : Shape → Type 0} → (left_shape : Shape) × (right_shape : Shape) × (shape : o ≡ at_both left_shape right_shape) × (left : Left left_shape) × Right right_shape → PairSpends o Left Right
to_pair_spends p = record { left_shape = p.0; right_shape = p.1; shape = p.2; left = p.3; right = p.4 }

pub application_spends_parts : {k : List Mode} {h : Holding} {m : Mode} {o : Shape} {Function Argument : Holding → Shape → Type 0} → ApplicationSpends k h m o Function Argument → (passed : Bool) × (domain_shape : Shape) × (for_function : Holding) × (for_argument : Holding) × (split : Split k h for_function for_argument) × (applied : Function for_function (at_function passed domain_shape o)) × (usable : may_use m k for_argument ≡ true) × ((passed ≡ true) ⊎ ((passed ≡ false) × Argument for_argument domain_shape))
application_spends_parts p = (p.passed, p.domain_shape, p.for_function, p.for_argument, p.split, p.applied, p.usable, p.argument)

pub to_application_spends : {k : List Mode} {h : Holding} {m : Mode} {o : Shape} {Function Argument : Holding → Shape → Type 0} → (passed : Bool) × (domain_shape : Shape) × (for_function : Holding) × (for_argument : Holding) × (split : Split k h for_function for_argument) × (applied : Function for_function (at_function passed domain_shape o)) × (usable : may_use m k for_argument ≡ true) × ((passed ≡ true) ⊎ ((passed ≡ false) × Argument for_argument domain_shape)) → ApplicationSpends k h m o Function Argument
to_application_spends p = record { passed = p.0; domain_shape = p.1; for_function = p.2; for_argument = p.3; split = p.4; applied = p.5; usable = p.6; argument = p.7 }

pub step_spends_parts : {k : List Mode} {h : Holding} {Right : Holding → Shape → Type 0} {Rest : EntryShapes → Holding → Type 0} → StepSpends k h Right Rest → (entry_shapes : EntryShapes) × (for_right : Holding) × (for_rest : Holding) × (split : Split k h for_right for_rest) × (right : Right for_right (at_monad entry_shapes)) × Rest entry_shapes for_rest
step_spends_parts p = (p.entry_shapes, p.for_right, p.for_rest, p.split, p.right, p.rest)

pub to_step_spends : {k : List Mode} {h : Holding} {Right : Holding → Shape → Type 0} {Rest : EntryShapes → Holding → Type 0} → (entry_shapes : EntryShapes) × (for_right : Holding) × (for_rest : Holding) × (split : Split k h for_right for_rest) × (right : Right for_right (at_monad entry_shapes)) × Rest entry_shapes for_rest → StepSpends k h Right Rest
to_step_spends p = record { entry_shapes = p.0; for_right = p.1; for_rest = p.2; split = p.3; right = p.4; rest = p.5 }

pub entry_spends_parts : {k : List Mode} {h : Holding} {m : Mode} {v : EntryShapes} {First : Holding → Shape → Type 0} {Later : Holding → EntryShapes → Type 0} → EntrySpends k h m v First Later → (passed : Bool) × (first_shape : Shape) × (later_shapes : EntryShapes) × (for_first : Holding) × (for_later : Holding) × (shape : v ≡ an_entry passed first_shape later_shapes) × (split : Split k h for_first for_later) × (usable : may_use m k for_first ≡ true) × (first : (passed ≡ true) ⊎ ((passed ≡ false) × First for_first first_shape)) × Later for_later later_shapes
entry_spends_parts p = (p.passed, p.first_shape, p.later_shapes, p.for_first, p.for_later, p.shape, p.split, p.usable, p.first, p.later)

pub to_entry_spends : {k : List Mode} {h : Holding} {m : Mode} {v : EntryShapes} {First : Holding → Shape → Type 0} {Later : Holding → EntryShapes → Type 0} → (passed : Bool) × (first_shape : Shape) × (later_shapes : EntryShapes) × (for_first : Holding) × (for_later : Holding) × (shape : v ≡ an_entry passed first_shape later_shapes) × (split : Split k h for_first for_later) × (usable : may_use m k for_first ≡ true) × (first : (passed ≡ true) ⊎ ((passed ≡ false) × First for_first first_shape)) × Later for_later later_shapes → EntrySpends k h m v First Later
to_entry_spends p = record { passed = p.0; first_shape = p.1; later_shapes = p.2; for_first = p.3; for_later = p.4; shape = p.5; split = p.6; usable = p.7; first = p.8; later = p.9 }

pub lambda_conforms_parts : {m : Mode} {t : SimpleType} {o : Shape} {Body : SimpleType → SimpleType → Shape → Shape → Type 0} → LambdaConforms m t o Body → (domain : SimpleType) × (range : SimpleType) × (passed : Bool) × (domain_shape : Shape) × (range_shape : Shape) × (type : t ≡ arrow m domain range) × (shape : o ≡ at_function passed domain_shape range_shape) × Body domain range domain_shape range_shape
lambda_conforms_parts p = (p.domain, p.range, p.passed, p.domain_shape, p.range_shape, p.type, p.shape, p.body)

pub to_lambda_conforms : {m : Mode} {t : SimpleType} {o : Shape} {Body : SimpleType → SimpleType → Shape → Shape → Type 0} → (domain : SimpleType) × (range : SimpleType) × (passed : Bool) × (domain_shape : Shape) × (range_shape : Shape) × (type : t ≡ arrow m domain range) × (shape : o ≡ at_function passed domain_shape range_shape) × Body domain range domain_shape range_shape → LambdaConforms m t o Body
to_lambda_conforms p = record { domain = p.0; range = p.1; passed = p.2; domain_shape = p.3; range_shape = p.4; type = p.5; shape = p.6; body = p.7 }

pub pair_conforms_parts : {t : SimpleType} {o : Shape} {Left Right : SimpleType → Shape → Type 0} → PairConforms t o Left Right → (left_type : SimpleType) × (right_type : SimpleType) × (left_shape : Shape) × (right_shape : Shape) × (type : t ≡ simple_with left_type right_type) × (shape : o ≡ at_both left_shape right_shape) × (left : Left left_type left_shape) × Right right_type right_shape
pair_conforms_parts p = (p.left_type, p.right_type, p.left_shape, p.right_shape, p.type, p.shape, p.left, p.right)

pub to_pair_conforms : {t : SimpleType} {o : Shape} {Left Right : SimpleType → Shape → Type 0} → (left_type : SimpleType) × (right_type : SimpleType) × (left_shape : Shape) × (right_shape : Shape) × (type : t ≡ simple_with left_type right_type) × (shape : o ≡ at_both left_shape right_shape) × (left : Left left_type left_shape) × Right right_type right_shape → PairConforms t o Left Right
to_pair_conforms p = record { left_type = p.0; right_type = p.1; left_shape = p.2; right_shape = p.3; type = p.4; shape = p.5; left = p.6; right = p.7 }

pub monadic_conforms_parts : {t : SimpleType} {o : Shape} {Body : SimpleTelescope → EntryShapes → Type 0} → MonadicConforms t o Body → (entries : SimpleTelescope) × (entry_shapes : EntryShapes) × (type : t ≡ lax entries) × (shape : o ≡ at_monad entry_shapes) × Body entries entry_shapes
monadic_conforms_parts p = (p.entries, p.entry_shapes, p.type, p.shape, p.body)

pub to_monadic_conforms : {t : SimpleType} {o : Shape} {Body : SimpleTelescope → EntryShapes → Type 0} → (entries : SimpleTelescope) × (entry_shapes : EntryShapes) × (type : t ≡ lax entries) × (shape : o ≡ at_monad entry_shapes) × Body entries entry_shapes → MonadicConforms t o Body
to_monadic_conforms p = record { entries = p.0; entry_shapes = p.1; type = p.2; shape = p.3; body = p.4 }

pub leaf_conforms_parts : {t : SimpleType} {Neutral : SimpleType → Shape → Type 0} → LeafConforms t Neutral → (number : ℕ) × (found_shape : Shape) × (type : t ≡ base number) × Neutral t found_shape
leaf_conforms_parts p = (p.number, p.found_shape, p.type, p.neutral)

pub to_leaf_conforms : {t : SimpleType} {Neutral : SimpleType → Shape → Type 0} → (number : ℕ) × (found_shape : Shape) × (type : t ≡ base number) × Neutral t found_shape → LeafConforms t Neutral
to_leaf_conforms p = record { number = p.0; found_shape = p.1; type = p.2; neutral = p.3 }

pub filled_conforms_parts : {z : Setting} {b : Assignment} {n : PlainNeutral} {t : SimpleType} → FilledConforms z b n t → (number : ℕ) × (fills : z.fills ≡ true) × (head : head_of n ≡ Meta number) × (not_implicit : z.implicit number ≡ None) × SimplyTyped b (atomic n) t
filled_conforms_parts p = (p.number, p.fills, p.head, p.not_implicit, p.typed)

pub to_filled_conforms : {z : Setting} {b : Assignment} {n : PlainNeutral} {t : SimpleType} → (number : ℕ) × (fills : z.fills ≡ true) × (head : head_of n ≡ Meta number) × (not_implicit : z.implicit number ≡ None) × SimplyTyped b (atomic n) t → FilledConforms z b n t
to_filled_conforms p = record { number = p.0; fills = p.1; head = p.2; not_implicit = p.3; typed = p.4 }

pub application_conforms_parts : {b : Assignment} {m : Mode} {n : PlainObject} {t : SimpleType} {o : Shape} {Function Argument : SimpleType → Shape → Type 0} → ApplicationConforms b m n t o Function Argument → (domain : SimpleType) × (passed : Bool) × (domain_shape : Shape) × (applied : Function (arrow m domain t) (at_function passed domain_shape o)) × PartConforms b passed n domain (Argument domain domain_shape)
application_conforms_parts p = (p.domain, p.passed, p.domain_shape, p.applied, p.argument)

pub to_application_conforms : {b : Assignment} {m : Mode} {n : PlainObject} {t : SimpleType} {o : Shape} {Function Argument : SimpleType → Shape → Type 0} → (domain : SimpleType) × (passed : Bool) × (domain_shape : Shape) × (applied : Function (arrow m domain t) (at_function passed domain_shape o)) × PartConforms b passed n domain (Argument domain domain_shape) → ApplicationConforms b m n t o Function Argument
to_application_conforms p = record { domain = p.0; passed = p.1; domain_shape = p.2; applied = p.3; argument = p.4 }

pub step_conforms_parts : {ms : List Mode} {Right : SimpleType → Shape → Type 0} {Rest : SimpleTelescope → EntryShapes → Type 0} → StepConforms ms Right Rest → (entries : SimpleTelescope) × (entry_shapes : EntryShapes) × (right : Right (lax entries) (at_monad entry_shapes)) × (pattern : simple_modes entries ≡ ms) × Rest entries entry_shapes
step_conforms_parts p = (p.entries, p.entry_shapes, p.right, p.pattern, p.rest)

pub to_step_conforms : {ms : List Mode} {Right : SimpleType → Shape → Type 0} {Rest : SimpleTelescope → EntryShapes → Type 0} → (entries : SimpleTelescope) × (entry_shapes : EntryShapes) × (right : Right (lax entries) (at_monad entry_shapes)) × (pattern : simple_modes entries ≡ ms) × Rest entries entry_shapes → StepConforms ms Right Rest
to_step_conforms p = record { entries = p.0; entry_shapes = p.1; right = p.2; pattern = p.3; rest = p.4 }

pub entry_conforms_parts : {b : Assignment} {m : Mode} {n : PlainObject} {s : SimpleTelescope} {v : EntryShapes} {First : SimpleType → Shape → Type 0} {Later : SimpleTelescope → EntryShapes → Type 0} → EntryConforms b m n s v First Later → (first_type : SimpleType) × (later_types : SimpleTelescope) × (passed : Bool) × (first_shape : Shape) × (later_shapes : EntryShapes) × (type : s ≡ simple_binding m first_type later_types) × (shape : v ≡ an_entry passed first_shape later_shapes) × (first : PartConforms b passed n first_type (First first_type first_shape)) × Later later_types later_shapes
entry_conforms_parts p = (p.first_type, p.later_types, p.passed, p.first_shape, p.later_shapes, p.type, p.shape, p.first, p.later)

pub to_entry_conforms : {b : Assignment} {m : Mode} {n : PlainObject} {s : SimpleTelescope} {v : EntryShapes} {First : SimpleType → Shape → Type 0} {Later : SimpleTelescope → EntryShapes → Type 0} → (first_type : SimpleType) × (later_types : SimpleTelescope) × (passed : Bool) × (first_shape : Shape) × (later_shapes : EntryShapes) × (type : s ≡ simple_binding m first_type later_types) × (shape : v ≡ an_entry passed first_shape later_shapes) × (first : PartConforms b passed n first_type (First first_type first_shape)) × Later later_types later_shapes → EntryConforms b m n s v First Later
to_entry_conforms p = record { first_type = p.0; later_types = p.1; passed = p.2; first_shape = p.3; later_shapes = p.4; type = p.5; shape = p.6; first = p.7; later = p.8 }

pub function_shape_parts : {d : Bool} {t : SimpleType} {Domain Range : SimpleType → Type 0} → FunctionShape d t Domain Range → (mode : Mode) × (domain : SimpleType) × (range : SimpleType) × (type : t ≡ arrow mode domain range) × (marked : d ≡ true → is_persistent mode ≡ true) × (domain_shape : Domain domain) × Range range
function_shape_parts p = (p.mode, p.domain, p.range, p.type, p.marked, p.domain_shape, p.range_shape)

pub to_function_shape : {d : Bool} {t : SimpleType} {Domain Range : SimpleType → Type 0} → (mode : Mode) × (domain : SimpleType) × (range : SimpleType) × (type : t ≡ arrow mode domain range) × (marked : d ≡ true → is_persistent mode ≡ true) × (domain_shape : Domain domain) × Range range → FunctionShape d t Domain Range
to_function_shape p = record { mode = p.0; domain = p.1; range = p.2; type = p.3; marked = p.4; domain_shape = p.5; range_shape = p.6 }

pub entry_shape_parts : {d : Bool} {s : SimpleTelescope} {First : SimpleType → Type 0} {Later : SimpleTelescope → Type 0} → EntryShape d s First Later → (mode : Mode) × (first : SimpleType) × (later : SimpleTelescope) × (type : s ≡ simple_binding mode first later) × (marked : d ≡ true → is_persistent mode ≡ true) × (first_shape : First first) × Later later
entry_shape_parts p = (p.mode, p.first, p.later, p.type, p.marked, p.first_shape, p.later_shapes)

pub to_entry_shape : {d : Bool} {s : SimpleTelescope} {First : SimpleType → Type 0} {Later : SimpleTelescope → Type 0} → (mode : Mode) × (first : SimpleType) × (later : SimpleTelescope) × (type : s ≡ simple_binding mode first later) × (marked : d ≡ true → is_persistent mode ≡ true) × (first_shape : First first) × Later later → EntryShape d s First Later
to_entry_shape p = record { mode = p.0; first = p.1; later = p.2; type = p.3; marked = p.4; first_shape = p.5; later_shapes = p.6 }

pub index_gathers_parts : {n : PlainObject} {k : PlainKind} {q : List Equation} {Index : List Equation → Type 0} {Later : PlainKind → List Equation → Type 0} → IndexGathers n k q Index Later → (after_put : PlainKind) × (of_index : List Equation) × (of_later : List Equation) × (index : Index of_index) × (put : SubstitutedKind (single n 0) k after_put) × (later : Later after_put of_later) × q ≡ of_index ++ of_later
index_gathers_parts p = (p.after_put, p.of_index, p.of_later, p.index, p.put, p.later, p.equations)

pub to_index_gathers : {n : PlainObject} {k : PlainKind} {q : List Equation} {Index : List Equation → Type 0} {Later : PlainKind → List Equation → Type 0} → (after_put : PlainKind) × (of_index : List Equation) × (of_later : List Equation) × (index : Index of_index) × (put : SubstitutedKind (single n 0) k after_put) × (later : Later after_put of_later) × q ≡ of_index ++ of_later → IndexGathers n k q Index Later
to_index_gathers p = record { after_put = p.0; of_index = p.1; of_later = p.2; index = p.3; put = p.4; later = p.5; equations = p.6 }

pub in_order_parts : {q : List Equation} {First Second : List Equation → Type 0} → InOrder q First Second → (of_first : List Equation) × (of_second : List Equation) × (first : First of_first) × (second : Second of_second) × q ≡ of_first ++ of_second
in_order_parts p = (p.of_first, p.of_second, p.first, p.second, p.equations)

pub to_in_order : {q : List Equation} {First Second : List Equation → Type 0} → (of_first : List Equation) × (of_second : List Equation) × (first : First of_first) × (second : Second of_second) × q ≡ of_first ++ of_second → InOrder q First Second
to_in_order p = record { of_first = p.0; of_second = p.1; first = p.2; second = p.3; equations = p.4 }
