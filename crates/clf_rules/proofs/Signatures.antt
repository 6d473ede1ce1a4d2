-- Well-formed signatures, declaration by declaration.
use Rattle.std.specs.Prelude.{ℕ, zero, suc, ◌≡◌, List, [], ◌∷◌, ◌++◌, Some, None, Contains, refl}
use Rattle.std.specs.List.{slice_get}
use Rattle.std.proofs.Common.{ap, sym, subst, ◌∙◌}
use Rattle.std.proofs.lemmas.List.Elements.{Contains-push, Contains-append_left}
use Rattle.clf_syntax.specs.TypeTree.{PlainType, PlainKind}
use Rattle.use_contexts.specs.Context.{Context}
use Rattle.clf_sig.specs.Entry.{PlainSignature, Declaration, PlainClass, family_of, constant_of, kind_in, type_in, names, family_kind, constant_type}
use Rattle.clf_rules.specs.WellFormed.{WellFormedType, WellFormedKind, WellFormedClass, MayFollow, AllMayFollow}
use Rattle.clf_rules.specs.Laws.{Extended, EachFollows, NamesDiffer, EntriesWellFormed}
use Rattle.clf_rules.proofs.Longer.{longer, kept_type, kept_kind, longer_signatures}

no_more : (s : PlainSignature) → s ++ [] ≡ s
no_more [] = refl
no_more (d ∷ s) = ap (λ l. d ∷ l) (no_more s)

one_more : (s : PlainSignature) (d : Declaration) (l : PlainSignature) → (s ++ d ∷ []) ++ l ≡ s ++ d ∷ l
one_more [] d l = refl
one_more (x ∷ s) d l = ap (λ k. x ∷ k) (one_more s d l)

pub all_snoc : (s l : PlainSignature) (d : Declaration) → AllMayFollow s l → MayFollow (s ++ l) d → AllMayFollow s (l ++ d ∷ [])
all_snoc s [] d p q = (subst (λ k. MayFollow k d) (no_more s) q, tt)
all_snoc s (x ∷ l) d p q = (p.0, all_snoc (s ++ x ∷ []) l d p.1 (subst (λ k. MayFollow k d) (sym (one_more s x l)) q))

pub extended : Extended
extended sig d p q = all_snoc [] sig d p q

follows : (s b a : PlainSignature) (d : Declaration) → AllMayFollow s (b ++ d ∷ a) → MayFollow (s ++ b) d
follows s [] a d p = subst (λ k. MayFollow k d) (sym (no_more s)) p.0
follows s (x ∷ b) a d p = subst (λ k. MayFollow k d) (one_more s x b) (follows (s ++ x ∷ []) b a d p.1)

all_follow : (s l : PlainSignature) → ((b a : PlainSignature) (d : Declaration) → l ≡ b ++ d ∷ a → MayFollow (s ++ b) d) → AllMayFollow s l
all_follow s [] h = tt
all_follow s (x ∷ l) h = (
  subst (λ k. MayFollow k x) (no_more s) (h [] l x refl),
  all_follow (s ++ x ∷ []) l (λ b a d e. subst (λ k. MayFollow k d) (sym (one_more s x b)) (h (x ∷ b) a d (ap (λ k. x ∷ k) e))),
)

pub each_follows : EachFollows
each_follows sig = ((λ p b a d e. follows [] b a d (subst (λ l. AllMayFollow [] l) e p)), (λ h. all_follow [] sig h))

names_append : (s l : PlainSignature) → names (s ++ l) ≡ names s ++ names l
names_append [] l = refl
names_append (d ∷ s) l = ap (λ k. d.0 ∷ k) (names_append s l)

the_same : {a b : List ℕ} → Some a ≡ Some b → a ≡ b
the_same e = cc

nothing : {X : Type 0} {a : X} → None ≡ Some a → ⊥
nothing e = cc

old_name : (s : PlainSignature) (d : Declaration) (w : List ℕ) → Contains (names s) w → Contains (names (s ++ d ∷ [])) w
old_name s d w p = subst (λ l. Contains l w) (sym (names_append s (d ∷ []))) (Contains-append_left (names s) (d.0 ∷ []) w p)

new_name : (s : PlainSignature) (d : Declaration) (w : List ℕ) → d.0 ≡ w → Contains (names (s ++ d ∷ [])) w
new_name s d w e = subst (λ l. Contains l w) (sym (names_append s (d ∷ []))) (subst (λ v. Contains (names s ++ v ∷ []) w) (sym e) (Contains-push (names s) w))

not_again : (s l : PlainSignature) (w : List ℕ) (j : ℕ) → AllMayFollow s l → slice_get (names l) j ≡ Some w → Contains (names s) w → ⊥
not_again s [] w j p e c = nothing e
not_again s (d ∷ l) w zero p e c = p.0.1 (subst (λ v. Contains (names s) v) (sym (the_same e)) c)
not_again s (d ∷ l) w (suc j) p e c = not_again (s ++ d ∷ []) l w j p.1 e (old_name s d w c)

differ : (s l : PlainSignature) (w : List ℕ) (i j : ℕ) → AllMayFollow s l → slice_get (names l) i ≡ Some w → slice_get (names l) j ≡ Some w → i ≡ j
differ s [] w i j p e f = absurd (nothing e)
differ s (d ∷ l) w zero zero p e f = refl
differ s (d ∷ l) w zero (suc j) p e f = absurd (not_again (s ++ d ∷ []) l w j p.1 f (new_name s d w (the_same e)))
differ s (d ∷ l) w (suc i) zero p e f = absurd (not_again (s ++ d ∷ []) l w i p.1 e (new_name s d w (the_same f)))
differ s (d ∷ l) w (suc i) (suc j) p e f = ap suc (differ (s ++ d ∷ []) l w i j p.1 e f)

pub names_differ : NamesDiffer
names_differ sig p i j w e f = differ [] sig w i j p e f

kind_formed : (s : PlainSignature) (c : PlainClass) (k : PlainKind) → kind_in c ≡ Some k → WellFormedClass s c → WellFormedKind s [] k
kind_formed s (family_of l) k e p = subst (λ x. WellFormedKind s [] x) (same_kind e) p
  where
    same_kind : {a b : PlainKind} → Some a ≡ Some b → a ≡ b
    same_kind e = cc
kind_formed s (constant_of a) k e p = absurd (nothing e)

type_formed : (s : PlainSignature) (c : PlainClass) (a : PlainType) → type_in c ≡ Some a → WellFormedClass s c → WellFormedType s [] a
type_formed s (constant_of b) a e p = subst (λ x. WellFormedType s [] x) (same_type e) p
  where
    same_type : {a b : PlainType} → Some a ≡ Some b → a ≡ b
    same_type e = cc
type_formed s (family_of k) a e p = absurd (nothing e)

families_formed : (s l : PlainSignature) (f : ℕ) (k : PlainKind) → AllMayFollow s l → family_kind l f ≡ Some k → WellFormedKind (s ++ l) [] k
families_formed s [] f k p e = absurd (nothing e)
families_formed s (d ∷ l) zero k p e = kept_kind s (s ++ d ∷ l) (longer s (d ∷ l)) k [] (kind_formed s d.1.class k e p.0.2.0)
families_formed s (d ∷ l) (suc f) k p e = subst (λ x. WellFormedKind x [] k) (one_more s d l) (families_formed (s ++ d ∷ []) l f k p.1 e)

constants_formed : (s l : PlainSignature) (c : ℕ) (a : PlainType) → AllMayFollow s l → constant_type l c ≡ Some a → WellFormedType (s ++ l) [] a
constants_formed s [] c a p e = absurd (nothing e)
constants_formed s (d ∷ l) zero a p e = kept_type s (s ++ d ∷ l) (longer s (d ∷ l)) a [] (type_formed s d.1.class a e p.0.2.0)
constants_formed s (d ∷ l) (suc c) a p e = subst (λ x. WellFormedType x [] a) (one_more s d l) (constants_formed (s ++ d ∷ []) l c a p.1 e)

pub entries_well_formed : EntriesWellFormed
entries_well_formed sig p = ((λ f k e. families_formed [] sig f k p e), (λ c a e. constants_formed [] sig c a p e))

pub ruleset signature_laws = (extended, each_follows, names_differ, longer_signatures, entries_well_formed)
