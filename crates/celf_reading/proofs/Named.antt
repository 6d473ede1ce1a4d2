-- What is well formed over a well-formed signature can be printed: its heads are entries whose names can be declared.
use Rattle.std.proofs.Common.{ℕ, ◌≡◌, ◌+◌, ◌<◌, ◌^◌, suc, zero, true, Some, List, [], ◌∷◌, ◌++◌, length, slice_get, arith, IsTrue}
use Rattle.clf_syntax.specs.declared.tree.Mode.TheVariants.{Persistent}
use Rattle.clf_syntax.specs.declared.tree.Head.TheVariants.{Const, Var, Meta}
use Rattle.clf_syntax.specs.Tree.{PlainObject, lam, pair, unit, monadic, atomic, hole, PlainNeutral, head_alone, app, fst, snd, PlainExpression, step, done, PlainTuple, empty, entry}
use Rattle.clf_syntax.specs.TypeTree.{PlainType, family, function, both, top, monad, PlainTelescope, end, binding, PlainKind}
use Rattle.clf_syntax.specs.Word.{is_declarable}
use Rattle.clf_syntax.specs.Renaming.{ren_telescope, up}
use Rattle.use_contexts.specs.Context.{Context, modes, with_entries}
use Rattle.use_contexts.specs.Holding.{Holding, persistent_alone, all_held}
use Rattle.clf_sig.specs.Entry.{Declaration, PlainClass, family_of, constant_of, PlainSignature, class_at, kind_in, type_in, family_kind, constant_type}
use Rattle.clf_rules.specs.Typing.{HasType, Synthesizes, ExpressionHasType, TupleHasType}
use Rattle.clf_rules.specs.WellFormed.{IndicesHaveTypes, WellFormedType, WellFormedTelescope, WellFormedKind, WellFormedClass, AllMayFollow, WellFormedSignature}
use Rattle.clf_printer.specs.Depth.{indices_depth, type_depth, telescope_depth, kind_depth, class_depth}
use Rattle.celf_places.proofs.Options.{option_map-some, option_and_then-some}
use Rattle.celf_spelling.specs.Printable.{IsPrintablePlace, HasNames, NeutralHasNames, ExpressionHasNames, TupleHasNames, ArePrintableIndices, IsPrintableType, IsPrintableTelescope, IsPrintableKind, IsPrintableClass}

declared-name : (front es : PlainSignature) (k : ℕ) (e : Declaration) → AllMayFollow front es → slice_get es k ≡ Some e → IsTrue (is_declarable e.0)
declared-name front [] k e h at = absurd (cc)
declared-name front (x ∷ xs) zero e h at = let e_is : x ≡ e = cc in rw (← e_is) h.0.0
declared-name front (x ∷ xs) (suc k) e h at = declared-name (front ++ x ∷ []) xs k e h.1 at

module _ (sig : PlainSignature) (formed : WellFormedSignature sig) where
  class-printable : (k : ℕ) (c : PlainClass) → class_at sig k ≡ Some c → IsPrintablePlace sig k
  class-printable k c h =
      let found = option_map-some (λ e. e.1.class) (slice_get sig k) c h in
      (found.0, found.1, declared-name [] sig k found.0 formed found.1)

  constant-printable : (c : ℕ) (a : PlainType) → constant_type sig c ≡ Some a → IsPrintablePlace sig c
  constant-printable c a h = let class = option_and_then-some (λ x. type_in x) (class_at sig c) a h in class-printable c class.0 class.1

  family-printable : (f : ℕ) (k : PlainKind) → family_kind sig f ≡ Some k → IsPrintablePlace sig f
  family-printable f k h = let class = option_and_then-some (λ x. kind_in x) (class_at sig f) k h in class-printable f class.0 class.1

  mutual
    pub typed-named : (n : PlainObject) (g : Context) (h : Holding) (t : PlainType) → HasType sig g h n t → HasNames sig n
    typed-named (lam m b) g h t p = typed-named b ((m, p.domain) ∷ g) (true ∷ h) p.range p.body
    typed-named (pair l r) g h t p = (typed-named l g h p.left_type p.left, typed-named r g h p.right_type p.right)
    typed-named unit g h t p = tt
    typed-named (monadic e) g h t p = expression-named e g h p.0 p.2
    typed-named (atomic n) g h t p = neutral-named n g h (family p.number p.found) p.neutral
    typed-named hole g h t p = absurd p

    neutral-named : (r : PlainNeutral) (g : Context) (h : Holding) (t : PlainType) → Synthesizes sig g h r t → NeutralHasNames sig r
    neutral-named (head_alone (Const c)) g h t p = constant-printable c t p.0
    neutral-named (head_alone (Var i)) g h t p = tt
    neutral-named (head_alone (Meta k)) g h t p = absurd p
    neutral-named (app m r n) g h t p =
        (neutral-named r g p.for_function (function m p.domain p.range) p.applied, typed-named n g p.for_argument p.domain p.argument)
    neutral-named (fst r) g h t p = neutral-named r g h (both t p.0) p.1
    neutral-named (snd r) g h t p = neutral-named r g h (both p.0 t) p.1

    expression-named : (e : PlainExpression) (g : Context) (h : Holding) (s : PlainTelescope) → ExpressionHasType sig g h e s → ExpressionHasNames sig e
    expression-named (step ms r e) g h s p = (neutral-named r g p.for_right (monad p.entries) p.right, expression-named e (with_entries p.entries g) (all_held ms p.for_rest) (ren_telescope (up (length ms)) s) p.rest)
    expression-named (done t) g h s p = tuple-named t g h s p

    tuple-named : (t : PlainTuple) (g : Context) (h : Holding) (s : PlainTelescope) → TupleHasType sig g h t s → TupleHasNames sig t
    tuple-named empty g h s p = tt
    tuple-named (entry m n t) g h s p = (typed-named n g p.for_first p.first_type p.first, tuple-named t g p.for_later p.after_put p.later)

  indices-printable : (ns : List PlainObject) (g : Context) (k : PlainKind) → length g + indices_depth ns < 2 ^ 64 → IndicesHaveTypes sig g ns k → ArePrintableIndices sig (length g) ns
  indices-printable [] g k small p = tt
  indices-printable (n ∷ ns) g [] small p = absurd p
  indices-printable (n ∷ ns) g (a ∷ k) small p =
      ((typed-named n g (persistent_alone (modes g)) a p.index, omega arith), indices-printable ns g p.after_put (omega arith) p.later)

  mutual
    pub formed-printable : (a : PlainType) (g : Context) → length g + type_depth a < 2 ^ 64 → WellFormedType sig g a → IsPrintableType sig (length g) a
    formed-printable (family f ns) g small p = (family-printable f p.0 p.1, indices-printable ns g p.0 small p.2)
    formed-printable (function m a b) g small p =
        let level : length ((m, a) ∷ g) ≡ length g + 1 = omega arith in
        let rest : IsPrintableType sig (length g + 1) b = (rw level at (formed-printable b ((m, a) ∷ g) (omega arith) p.1)) in
        (formed-printable a g (omega arith) p.0, rest, (λ named. omega arith))
    formed-printable (both a b) g small p = (formed-printable a g (omega arith) p.0, formed-printable b g (omega arith) p.1)
    formed-printable top g small p = tt
    formed-printable (monad s) g small p = telescope-printable s g small p

    telescope-printable : (s : PlainTelescope) (g : Context) → length g + telescope_depth s < 2 ^ 64 → WellFormedTelescope sig g s → IsPrintableTelescope sig (length g) s
    telescope-printable end g small p = tt
    telescope-printable (binding m a s) g small p =
        let level : length ((m, a) ∷ g) ≡ length g + 1 = omega arith in
        let rest : IsPrintableTelescope sig (length g + 1) s = (rw level at (telescope-printable s ((m, a) ∷ g) (omega arith) p.1)) in
        (formed-printable a g (omega arith) p.0, rest, (λ named. omega arith))

  kind-printable : (k : PlainKind) (g : Context) → length g + kind_depth k < 2 ^ 64 → WellFormedKind sig g k → IsPrintableKind sig (length g) k
  kind-printable [] g small p = tt
  kind-printable (a ∷ k) g small p =
      let level : length ((Persistent, a) ∷ g) ≡ length g + 1 = omega arith in
      let rest : IsPrintableKind sig (length g + 1) k = (rw level at (kind-printable k ((Persistent, a) ∷ g) (omega arith) p.1)) in
      (formed-printable a g (omega arith) p.0, rest, (λ named. omega arith))

  pub class-formed-printable : (c : PlainClass) → class_depth c < 2 ^ 64 → WellFormedClass sig c → IsPrintableClass sig c
  class-formed-printable (family_of k) small p = kind-printable k [] (omega arith) p
  class-formed-printable (constant_of a) small p = formed-printable a [] (omega arith) p
