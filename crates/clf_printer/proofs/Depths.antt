-- A text is at least as long as the binders in it nest deep, since each binder is written.
use Rattle.std.proofs.Common.{◌≡◌, ◌==◌, nat_lt, ℕ, ◌+◌, ◌≤◌, Bool, true, false, ◌&&◌, not, List, [], ◌∷◌, ◌++◌, length, length-append, le_refl, arith, codes}
use Rattle.std.proofs.Math.Nat.{max-le}
use Rattle.std.specs.Fmt.{decimal}
use Rattle.clf_syntax.specs.declared.tree.Mode.{Mode}
use Rattle.clf_syntax.specs.declared.tree.Mode.TheVariants.{Persistent, Affine, Linear}
use Rattle.clf_syntax.specs.Tree.{PlainObject, lam, pair, unit, monadic, atomic, hole, PlainNeutral, head_alone, app, fst, snd, PlainExpression, step, done, PlainTuple, empty, entry}
use Rattle.clf_syntax.specs.Occurs.{occurs_type, occurs_telescope, occurs_kind}
use Rattle.clf_syntax.specs.TypeTree.{PlainType, family, function, both, top, monad, PlainTelescope, end, binding, PlainKind}
use Rattle.clf_sig.specs.Entry.{PlainSignature, PlainClass, family_of, constant_of, PlainEntry}
use Rattle.clf_printer.specs.declared.place.Place.{Place}
use Rattle.clf_printer.specs.declared.place.Place.TheVariants.{Whole, Operand, Factor}
use Rattle.clf_printer.specs.Depth.{scope_depth, neutral_depth, expression_depth, tuple_depth, indices_depth, type_depth, telescope_depth, kind_depth, class_depth}
use Rattle.clf_printer.specs.Text.{when, grouped, listed, is_application, is_atom, mark_text, new_variable_text, binder_text, binders_text, comma, pattern_text, argument_text, tuple_entry_text, step_text, width, tuple_comma, object_text, neutral_text, expression_text, tuple_text, arrow_text, groups_function, groups_pair, is_persistent, named_text, domain_text, tele_entry_text, is_end, indices_text, type_text, telescope_text, kind_text, class_text, implicit_text, declaration_text, place_text}

length-three : (a b c : List ℕ) → length (a ++ b ++ c) ≡ length a + length b + length c
length-three a b c = omega (arith, length-append (a ++ b) c, length-append a b)

length-four : (a b c d : List ℕ) → length (a ++ b ++ c ++ d) ≡ length a + length b + length c + length d
length-four a b c d = omega (arith, length-append (a ++ b ++ c) d, length-three a b c)

length-five : (a b c d e : List ℕ) → length (a ++ b ++ c ++ d ++ e) ≡ length a + length b + length c + length d + length e
length-five a b c d e = omega (arith, length-append (a ++ b ++ c ++ d) e, length-four a b c d)

in-grouped : (wanted : Bool) (text : List ℕ) → length text ≤ length (grouped wanted text)
in-grouped wanted text = omega (arith, length-three (when wanted (codes "(")) text (when wanted (codes ")")))

in-argument : (m : Mode) (atom : Bool) (text : List ℕ) → length text ≤ length (argument_text m atom text)
in-argument m atom text = omega (arith, in-grouped (not atom) text, length-three (codes " ") (mark_text m) (grouped (not atom) text))

in-tuple_entry : (m : Mode) (atom : Bool) (text : List ℕ) → length text ≤ length (tuple_entry_text m atom text)
in-tuple_entry Persistent atom text = omega (arith, in-grouped (not atom) text, length-append (codes "!") (grouped (not atom) text))
in-tuple_entry Affine atom text = omega (arith, in-grouped (not atom) text, length-append (codes "@") (grouped (not atom) text))
in-tuple_entry Linear atom text = le_refl (length text)

-- a variable has its letter
in-binder : (level : ℕ) (m : Mode) → 1 ≤ length (binder_text level m)
in-binder level m = omega (arith, length-append (mark_text m) (new_variable_text level), length-append (codes "x") (decimal (level + 1)))

in-binders : (level : ℕ) (ms : List Mode) → length ms ≤ length (binders_text level ms)
in-binders level [] = le_refl 0
in-binders level (m ∷ ms) = omega (arith, in-binder level m, in-binders (level + 1) ms, length-three (binder_text level m) (comma ms) (binders_text (level + 1) ms))

in-listed : (count : ℕ) (text : List ℕ) → length text ≤ length (listed count text)
in-listed count text = omega (arith, length-four (when (count == 0) (codes "1")) (when (nat_lt 1 count) (codes "[")) text (when (nat_lt 1 count) (codes "]")))

-- a step is no shorter than its binders and its neutral
in-step : (level : ℕ) (ms : List Mode) (text : List ℕ) → length ms + length text ≤ length (step_text level ms text)
in-step level ms text =
    omega (arith, in-binders level ms, in-listed (length ms) (binders_text level ms), length-five (codes "let {") (pattern_text level ms) (codes "} = ") text (codes " in "))

module _ (sig : PlainSignature) (metas : List ℕ) where
  mutual
    pub depth-object : (level : ℕ) (n : PlainObject) → scope_depth n ≤ length (object_text sig metas level n)
    depth-object level (lam m b) = omega (arith, depth-object (level + 1) b, length-four (codes "\\") (binder_text level m) (codes ". ") (object_text sig metas (level + 1) b))
    depth-object level (pair l r) =
        let all = length-five (codes "<") (object_text sig metas level l) (codes ", ") (object_text sig metas level r) (codes ">") in
        max-le (omega (arith, depth-object level l, all)) (omega (arith, depth-object level r, all))
    depth-object level unit = omega arith
    depth-object level (monadic e) = omega (arith, depth-expression level e, length-three (codes "{") (expression_text sig metas level e) (codes "}"))
    depth-object level (atomic n) = depth-neutral level n
    depth-object level hole = omega arith

    depth-neutral : (level : ℕ) (n : PlainNeutral) → neutral_depth n ≤ length (neutral_text sig metas level n)
    depth-neutral level (head_alone h) = omega arith
    depth-neutral level (app m r n) =
        let text = object_text sig metas level n in
        let all = length-append (neutral_text sig metas level r) (argument_text m (is_atom n) text) in
        max-le (omega (arith, depth-neutral level r, all)) (omega (arith, depth-object level n, in-argument m (is_atom n) text, all))
    depth-neutral level (fst r) =
        let text = neutral_text sig metas level r in
        omega (arith, depth-neutral level r, in-grouped (is_application r) text, length-append (codes "#1 ") (grouped (is_application r) text))
    depth-neutral level (snd r) =
        let text = neutral_text sig metas level r in
        omega (arith, depth-neutral level r, in-grouped (is_application r) text, length-append (codes "#2 ") (grouped (is_application r) text))

    depth-expression : (level : ℕ) (e : PlainExpression) → expression_depth e ≤ length (expression_text sig metas level e)
    depth-expression level (step ms r e) =
        let text = neutral_text sig metas level r in
        let all = length-append (step_text level ms text) (expression_text sig metas (level + length ms) e) in
        max-le (omega (arith, depth-neutral level r, in-step level ms text, all)) (omega (arith, depth-expression (level + length ms) e, in-step level ms text, all))
    depth-expression level (done t) = omega (arith, depth-tuple level t, in-listed (width t) (tuple_text sig metas level t))

    depth-tuple : (level : ℕ) (t : PlainTuple) → tuple_depth t ≤ length (tuple_text sig metas level t)
    depth-tuple level empty = le_refl 0
    depth-tuple level (entry m n t) =
        let text = object_text sig metas level n in
        let all = length-three (tuple_entry_text m (is_atom n) text) (tuple_comma t) (tuple_text sig metas level t) in
        max-le (omega (arith, depth-object level n, in-tuple_entry m (is_atom n) text, all)) (omega (arith, depth-tuple level t, all))

-- ---- types

in-arrow : (m : Mode) → 1 ≤ length (arrow_text m)
in-arrow Persistent = omega arith
in-arrow Affine = omega arith
in-arrow Linear = omega arith

-- an argument in front of the rest has its arrow, or the dot after its name
in-domain : (m : Mode) (named : Bool) (level : ℕ) (alone left : List ℕ) (d : ℕ) → d ≤ length alone → d ≤ length left → d + 1 ≤ length (domain_text m named level alone left)
in-domain m true level alone left d h k =
    omega (arith, h, length-append (codes "Pi ") (named_text level alone), length-four (new_variable_text level) (codes ": ") alone (codes ". "))
in-domain m false level alone left d h k = omega (arith, k, in-arrow m, length-append left (arrow_text m))

in-tele_entry : (m : Mode) (named goes_on : Bool) (level : ℕ) (alone factor : List ℕ) (d : ℕ) → d ≤ length alone → d ≤ length factor → d ≤ length (tele_entry_text m named goes_on level alone factor)
in-tele_entry m true goes_on level alone factor d h k =
    omega (arith, h, length-append (codes "Exists ") (named_text level alone), length-four (new_variable_text level) (codes ": ") alone (codes ". "))
in-tele_entry m false goes_on level alone factor d h k = omega (arith, k, length-three (mark_text m) factor (when goes_on (codes " * ")))

-- an entry that goes on has its sign
in-sign : (m : Mode) (named : Bool) (level : ℕ) (alone factor : List ℕ) → 1 ≤ length (tele_entry_text m named true level alone factor)
in-sign m true level alone factor = omega (arith, length-append (codes "Exists ") (named_text level alone))
in-sign m false level alone factor = omega (arith, length-three (mark_text m) factor (codes " * "))

module _ (sig : PlainSignature) (metas : List ℕ) where
  depth-indices : (level : ℕ) (ns : List PlainObject) → indices_depth ns ≤ length (indices_text sig metas level ns)
  depth-indices level [] = le_refl 0
  depth-indices level (n ∷ ns) =
      let text = object_text sig metas level n in
      let all = length-append (argument_text Persistent (is_atom n) text) (indices_text sig metas level ns) in
      max-le (omega (arith, depth-object sig metas level n, in-argument Persistent (is_atom n) text, all)) (omega (arith, depth-indices level ns, all))

  mutual
    pub depth-type : (level : ℕ) (p : Place) (a : PlainType) → type_depth a ≤ length (type_text sig metas level p a)
    depth-type level p (family k ns) = omega (arith, depth-indices level ns, length-append (place_text sig k) (indices_text sig metas level ns))
    depth-type level p (function m a b) =
        let named = is_persistent m && occurs_type 0 b in
        let front = domain_text m named level (type_text sig metas level Whole a) (type_text sig metas level Operand a) in
        let back = type_text sig metas (level + 1) Whole b in
        let domain = in-domain m named level (type_text sig metas level Whole a) (type_text sig metas level Operand a) (type_depth a) (depth-type level Whole a) (depth-type level Operand a) in
        let all = length-append front back in
        let inside = in-grouped (groups_function p) (front ++ back) in
        max-le (omega (arith, domain, all, inside)) (omega (arith, domain, depth-type (level + 1) Whole b, all, inside))
    depth-type level p (both a b) =
        let left = type_text sig metas level Factor a in
        let right = type_text sig metas level Operand b in
        let all = length-three left (codes " & ") right in
        let inside = in-grouped (groups_pair p) (left ++ codes " & " ++ right) in
        max-le (omega (arith, depth-type level Factor a, all, inside)) (omega (arith, depth-type level Operand b, all, inside))
    depth-type level p top = omega arith
    depth-type level p (monad s) = omega (arith, depth-telescope level s, length-four (codes "{") (when (is_end s) (codes "1")) (telescope_text sig metas level s) (codes "}"))

    -- the last entry binds a variable and has no sign
    depth-telescope : (level : ℕ) (s : PlainTelescope) → telescope_depth s ≤ length (telescope_text sig metas level s) + 1
    depth-telescope level end = omega arith
    depth-telescope level (binding m a end) =
        let named = is_persistent m && occurs_telescope 0 end in
        let here = in-tele_entry m named false level (type_text sig metas level Whole a) (type_text sig metas level Operand a) (type_depth a) (depth-type level Whole a) (depth-type level Operand a) in
        let all = length-append (tele_entry_text m named false level (type_text sig metas level Whole a) (type_text sig metas level Operand a)) [] in
        max-le (omega (arith, here, all)) (omega arith)
    depth-telescope level (binding m a (binding n b s)) =
        let rest : PlainTelescope = binding n b s in
        let named = is_persistent m && occurs_telescope 0 rest in
        let front = tele_entry_text m named true level (type_text sig metas level Whole a) (type_text sig metas level Operand a) in
        let here = in-tele_entry m named true level (type_text sig metas level Whole a) (type_text sig metas level Operand a) (type_depth a) (depth-type level Whole a) (depth-type level Operand a) in
        let sign = in-sign m named level (type_text sig metas level Whole a) (type_text sig metas level Operand a) in
        let all = length-append front (telescope_text sig metas (level + 1) rest) in
        max-le (omega (arith, here, all)) (omega (arith, sign, depth-telescope (level + 1) (binding n b s), all))

  depth-kind : (level : ℕ) (k : PlainKind) → kind_depth k ≤ length (kind_text sig metas level k)
  depth-kind level [] = omega arith
  depth-kind level (a ∷ k) =
      let named = occurs_kind 0 k in
      let front = domain_text Persistent named level (type_text sig metas level Whole a) (type_text sig metas level Operand a) in
      let domain = in-domain Persistent named level (type_text sig metas level Whole a) (type_text sig metas level Operand a) (type_depth a) (depth-type level Whole a) (depth-type level Operand a) in
      let all = length-append front (kind_text sig metas (level + 1) k) in
      max-le (omega (arith, domain, all)) (omega (arith, domain, depth-kind (level + 1) k, all))

  depth-class : (c : PlainClass) → class_depth c ≤ length (class_text sig metas c)
  depth-class (family_of k) = depth-kind 0 k
  depth-class (constant_of a) = depth-type 0 Whole a

  pub depth-declaration : (name : List ℕ) (e : PlainEntry) → class_depth e.class ≤ length (declaration_text sig metas name e)
  depth-declaration name e = omega (arith, depth-class e.class, length-five name (codes " : ") (implicit_text e.implicit) (class_text sig metas e.class) (codes "."))
