-- No step of a written text has a metavariable as its head: new metavariables stand as objects alone. Where it is so, what is simply typed conforms.
use Rattle.std.proofs.Common.{inl, inr, subst, sym, ⊎_elim, ◌∙◌}
use Rattle.std.specs.Prelude.{Bool, List, Some, [], false, if◌then◌else◌, refl, true, ℕ, ◌+◌, ◌∷◌, ◌≡◌, ◌⊎◌, length}
use Rattle.clf_syntax.specs.Renaming.{Renumbering, lifted, ren, ren_expression, ren_neutral, ren_tuple, up}
use Rattle.clf_syntax.specs.Simple.{Assignment, Families, SimplyFormed, SimplyFormedKind, SimplyFormedTelescope, SimplyTyped, SimplyTypedEach, SimplyTypedExpression, SimplyTypedNeutral, SimplyTypedTuple, erase, extended, extended_by, simple_modes}
use Rattle.clf_syntax.specs.Tree.{PlainExpression, PlainNeutral, PlainObject, PlainTuple, app, atomic, done, empty, entry, fst, head_alone, head_of, hole, lam, monadic, pair, snd, step, unit}
use Rattle.clf_syntax.specs.TypeTree.{PlainKind, PlainTelescope, PlainType, SimpleTelescope, SimpleType, arrow, base, binding, both, end, family, function, lax, monad, simple_binding, simple_end, simple_top, simple_with, top}
use Rattle.clf_syntax.specs.declared.tree.Head.{Head}
use Rattle.clf_syntax.specs.declared.tree.Head.TheVariants.{Const, Meta, Var}
use Rattle.hered_subst.specs.TypedEnvironments.{is_metavariable}
use Rattle.eta_laws.proofs.Expansions.{expansion_laws, meta_renamed}
use Rattle.eta_laws.specs.Eta.{eta, expansion, variables}
use Rattle.metavars.specs.Fresh.{Scope, applied_from, binder, fresh_object, new_types}
use Rattle.celf_conform.specs.Fits.{EachFits, ExpressionFits, Fits, HeadFits, KindFits, NeutralFits, TelescopeFits, TupleFits, TypeFits}

abbrev mutual
  pub StepsNamed : PlainObject → Type 0
  StepsNamed (lam m n) = StepsNamed n
  StepsNamed (pair l r) = StepsNamed l × StepsNamed r
  StepsNamed unit = Unit {0}
  StepsNamed (monadic e) = ExpressionNamed e
  StepsNamed (atomic n) = (is_metavariable (head_of n) ≡ true) ⊎ NeutralNamed n
  StepsNamed hole = Unit {0}

  -- a neutral whose head is no metavariable
  pub NeutralNamed : PlainNeutral → Type 0
  NeutralNamed (head_alone h) = is_metavariable h ≡ false
  NeutralNamed (app m r n) = NeutralNamed r × StepsNamed n
  NeutralNamed (fst r) = NeutralNamed r
  NeutralNamed (snd r) = NeutralNamed r

  pub ExpressionNamed : PlainExpression → Type 0
  ExpressionNamed (step ms r e) = NeutralNamed r × ExpressionNamed e
  ExpressionNamed (done t) = TupleNamed t

  pub TupleNamed : PlainTuple → Type 0
  TupleNamed empty = Unit {0}
  TupleNamed (entry m n t) = StepsNamed n × TupleNamed t

abbrev pub EachNamed : List PlainObject → Type 0
EachNamed [] = Unit {0}
EachNamed (n ∷ ns) = StepsNamed n × EachNamed ns

abbrev mutual
  pub TypeNamed : PlainType → Type 0
  TypeNamed (family f ns) = EachNamed ns
  TypeNamed (function m a b) = TypeNamed a × TypeNamed b
  TypeNamed (both a b) = TypeNamed a × TypeNamed b
  TypeNamed top = Unit {0}
  TypeNamed (monad s) = TelescopeNamed s

  pub TelescopeNamed : PlainTelescope → Type 0
  TelescopeNamed end = Unit {0}
  TelescopeNamed (binding m a s) = TypeNamed a × TelescopeNamed s

abbrev pub KindNamed : PlainKind → Type 0
KindNamed [] = Unit {0}
KindNamed (a ∷ k) = TypeNamed a × KindNamed k

-- ---- what is simply typed conforms
named_head_alone : (n : PlainNeutral) → NeutralNamed n → is_metavariable (head_of n) ≡ false
named_head_alone (head_alone h) p = p
named_head_alone (app m r n) p = named_head_alone r p.0
named_head_alone (fst r) p = named_head_alone r p
named_head_alone (snd r) p = named_head_alone r p

is_meta : (h : Head) → is_metavariable h ≡ true → (m : ℕ) × (h ≡ Meta m)
is_meta (Const c) e = absurd (cc)
is_meta (Var i) e = absurd (cc)
is_meta (Meta m) e = (m, refl)

not_meta : (h : Head) (m : ℕ) → is_metavariable h ≡ false → h ≡ Meta m → ⊥
not_meta h m e f = cc

head_fits : (h : Head) (b : Assignment) (t : SimpleType) → is_metavariable h ≡ false → b h ≡ Some t → HeadFits b h t
head_fits (Const c) b t n e = e
head_fits (Var i) b t n e = e
head_fits (Meta m) b t n e = absurd (not_meta (Meta m) m n refl)

mutual
  pub typed_fits : (n : PlainObject) (b : Assignment) (t : SimpleType) → StepsNamed n → SimplyTyped b n t → Fits b n t
  typed_fits (lam m n) b t s p = (p.0, p.1, p.2, typed_fits n (extended p.0 b) p.1 s p.3)
  typed_fits (pair l r) b t s p = (p.0, p.1, p.2, typed_fits l b p.0 s.0 p.3, typed_fits r b p.1 s.1 p.4)
  typed_fits unit b t s p = p
  typed_fits (monadic e) b t s p = (p.0, p.1, typed_expression_fits e b p.0 s p.2)
  typed_fits (atomic n) b t s p = ⊎_elim
      (λ h. let (m, e) = is_meta (head_of n) h in inr (record { number = m; head = e; typed = p }))
      (λ h. ⊎_elim (λ q. inl (q.0, q.1, typed_neutral_fits n b t h p.1)) (λ q. absurd (not_meta (head_of n) q.0 (named_head_alone n h) q.2)) p.0) s
  typed_fits hole b t s p = absurd (never p)
    where
      never : false ≡ true → ⊥
      never e = cc

  typed_neutral_fits : (n : PlainNeutral) (b : Assignment) (t : SimpleType) → NeutralNamed n → SimplyTypedNeutral b n t → NeutralFits b n t
  typed_neutral_fits (head_alone h) b t s p = head_fits h b t s p
  typed_neutral_fits (app m r n) b t s p = (p.0, typed_neutral_fits r b (arrow m p.0 t) s.0 p.1, typed_fits n b p.0 s.1 p.2)
  typed_neutral_fits (fst r) b t s p = (p.0, typed_neutral_fits r b (simple_with t p.0) s p.1)
  typed_neutral_fits (snd r) b t s p = (p.0, typed_neutral_fits r b (simple_with p.0 t) s p.1)

  typed_expression_fits : (e : PlainExpression) (b : Assignment) (u : SimpleTelescope) → ExpressionNamed e → SimplyTypedExpression b e u → ExpressionFits b e u
  typed_expression_fits (step ms r e) b u s p = (p.0, typed_neutral_fits r b (lax p.0) s.0 p.1, p.2, typed_expression_fits e (extended_by p.0 b) u s.1 p.3)
  typed_expression_fits (done t) b u s p = typed_tuple_fits t b u s p

  typed_tuple_fits : (t : PlainTuple) (b : Assignment) (u : SimpleTelescope) → TupleNamed t → SimplyTypedTuple b t u → TupleFits b t u
  typed_tuple_fits empty b u s p = p
  typed_tuple_fits (entry m n t) b u s p = (p.0, p.1, p.2, typed_fits n b p.0 s.0 p.3, typed_tuple_fits t b p.1 s.1 p.4)

each_fits : (ns : List PlainObject) (b : Assignment) (ts : List SimpleType) → EachNamed ns → SimplyTypedEach b ns ts → EachFits b ns ts
each_fits [] b [] s p = tt
each_fits (n ∷ ns) b (t ∷ ts) s p = (typed_fits n b t s.0 p.0, each_fits ns b ts s.1 p.1)
each_fits [] b (t ∷ ts) s p = absurd p
each_fits (n ∷ ns) b [] s p = absurd p

module _ (arguments : Families) where
  mutual
    pub formed_fits : (a : PlainType) (b : Assignment) → TypeNamed a → SimplyFormed arguments b a → TypeFits arguments b a
    formed_fits (family f ns) b s p = (p.0, p.1, each_fits ns b p.0 s p.2)
    formed_fits (function m a c) b s p = (formed_fits a b s.0 p.0, formed_fits c (extended (erase a) b) s.1 p.1)
    formed_fits (both a c) b s p = (formed_fits a b s.0 p.0, formed_fits c b s.1 p.1)
    formed_fits top b s p = tt
    formed_fits (monad t) b s p = formed_telescope_fits t b s p

    pub formed_telescope_fits : (t : PlainTelescope) (b : Assignment) → TelescopeNamed t → SimplyFormedTelescope arguments b t → TelescopeFits arguments b t
    formed_telescope_fits end b s p = tt
    formed_telescope_fits (binding m a t) b s p = (formed_fits a b s.0 p.0, formed_telescope_fits t (extended (erase a) b) s.1 p.1)

  pub formed_kind_fits : (k : PlainKind) (b : Assignment) → KindNamed k → SimplyFormedKind arguments b k → KindFits arguments b k
  formed_kind_fits [] b s p = tt
  formed_kind_fits (a ∷ k) b s p = (formed_fits a b s.0 p.0, formed_kind_fits k (extended (erase a) b) s.1 p.1)

-- ---- renamed trees, eta-long forms and new metavariables
mutual
  named_renamed : (r : Renumbering) (n : PlainObject) → StepsNamed n → StepsNamed (ren r n)
  named_renamed r (lam m n) p = named_renamed (lifted 1 r) n p
  named_renamed r (pair x y) p = (named_renamed r x p.0, named_renamed r y p.1)
  named_renamed r unit p = tt
  named_renamed r (monadic e) p = named_expression_renamed r e p
  named_renamed r (atomic n) p = ⊎_elim (λ q. inl (meta_renamed r n ∙ q)) (λ q. inr (named_neutral_renamed r n q)) p
  named_renamed r hole p = tt

  named_neutral_renamed : (r : Renumbering) (n : PlainNeutral) → NeutralNamed n → NeutralNamed (ren_neutral r n)
  named_neutral_renamed r (head_alone (Const c)) p = refl
  named_neutral_renamed r (head_alone (Var i)) p = refl
  named_neutral_renamed r (head_alone (Meta m)) p = p
  named_neutral_renamed r (app m n o) p = (named_neutral_renamed r n p.0, named_renamed r o p.1)
  named_neutral_renamed r (fst n) p = named_neutral_renamed r n p
  named_neutral_renamed r (snd n) p = named_neutral_renamed r n p

  named_expression_renamed : (r : Renumbering) (e : PlainExpression) → ExpressionNamed e → ExpressionNamed (ren_expression r e)
  named_expression_renamed r (step ms n e) p = (named_neutral_renamed r n p.0, named_expression_renamed (lifted (length ms) r) e p.1)
  named_expression_renamed r (done t) p = named_tuple_renamed r t p

  named_tuple_renamed : (r : Renumbering) (t : PlainTuple) → TupleNamed t → TupleNamed (ren_tuple r t)
  named_tuple_renamed r empty p = tt
  named_tuple_renamed r (entry m n t) p = (named_renamed r n p.0, named_tuple_renamed r t p.1)

mutual
  named_eta : (t : SimpleType) (n : PlainNeutral) → NeutralNamed n → StepsNamed (eta t n)
  named_eta (base a) n p = inr p
  named_eta (arrow m d c) n p = named_eta c (app m (ren_neutral (up 1) n) (eta d (head_alone (Var 0)))) (named_neutral_renamed (up 1) n p, named_eta d (head_alone (Var 0)) refl)
  named_eta (simple_with c d) n p = (named_eta c (fst n) p, named_eta d (snd n) p)
  named_eta simple_top n p = tt
  named_eta (lax ts) n p = (p, named_variables ts)

  named_variables : (ts : SimpleTelescope) → TupleNamed (variables ts)
  named_variables simple_end = tt
  named_variables (simple_binding m t ts) = (named_eta t (head_alone (Var (length (simple_modes ts)))) refl, named_variables ts)

pub named_expansion : (t : SimpleType) (n : PlainNeutral) → NeutralNamed n → StepsNamed (expansion t n)
named_expansion t n p = subst (λ (o : PlainObject). StepsNamed o) (sym (expansion_laws.long t n (named_head_alone n p))) (named_eta t n p)

meta_applied : (i : ℕ) (s : Scope) (r : PlainNeutral) → is_metavariable (head_of r) ≡ true → is_metavariable (head_of (applied_from i s r)) ≡ true
meta_applied i [] r p = p
meta_applied i (l ∷ ls) r p = by l.applied (meta_applied (i + 1) ls r p)
  where
    by : (b : Bool) → is_metavariable (head_of (applied_from (i + 1) ls r)) ≡ true
        → is_metavariable (head_of (if b then app l.mode (applied_from (i + 1) ls r) (eta l.type (head_alone (Var i))) else applied_from (i + 1) ls r)) ≡ true
    by true q = q
    by false q = q

pub named_fresh : (t : SimpleType) (k : ℕ) (s : Scope) → StepsNamed (fresh_object k s t)
named_fresh (base f) k s = inl (meta_applied 0 s (head_alone (Meta k)) refl)
named_fresh (arrow m d c) k s = named_fresh c k (binder m d ∷ s)
named_fresh (simple_with c d) k s = (named_fresh c k s, named_fresh d (k + length (new_types s c)) s)
named_fresh simple_top k s = tt
named_fresh (lax ts) k s = inl (meta_applied 0 s (head_alone (Meta k)) refl)
