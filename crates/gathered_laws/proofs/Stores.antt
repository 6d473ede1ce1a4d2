-- Stores whose metavariables are all new, and types without variables.
use Rattle.std.proofs.Common.{ap, subst, sym, ◌∙◌}
use Rattle.std.proofs.lemmas.List.Elements.{All-get_or}
use Rattle.std.proofs.lemmas.Option.{get_or_from_slice_get, slice_get_within}
use Rattle.std.specs.List.{All, slice_get}
use Rattle.std.specs.Prelude.{List, None, Some, [], map, refl, ℕ, ◌++◌, ◌∷◌, ◌≡◌}
use Rattle.clf_syntax.proofs.RenamingLaws.{ext}
use Rattle.clf_syntax.specs.Tree.{PlainObject}
use Rattle.clf_syntax.specs.TypeTree.{SimpleType}
use Rattle.clf_syntax.specs.declared.tree.Head.{Head}
use Rattle.clf_syntax.specs.declared.tree.Head.TheVariants.{Const, Meta, Var}
use Rattle.hered_subst.proofs.Types.{determined_type, renames_type}
use Rattle.hered_subst.specs.Laws.{keeping}
use Rattle.hered_subst.specs.Substitution.{keep}
use Rattle.subst_laws.proofs.Results.{unmoved}
use Rattle.subst_laws.specs.Environments.{Instantiation}
use Rattle.store_laws.specs.Additions.{Addition, given, new, solved}
use Rattle.pattern_laws.specs.Equations.{TypedEquations}
use Rattle.pattern_laws.specs.Instantiations.{Types, closed}
use Rattle.pattern_laws.specs.Patterns.{HasFinalResult}
use Rattle.unify_laws.specs.Problems.{Problem}
use Rattle.metavars.proofs.ScopesLaws.{new-types}
use Rattle.gathered_laws.specs.Laws.{FormedTypeHasNoVariables, StartIsFresh, StartIsStore}

tail_of : {x y : Addition} {xs ys : List Addition} → x ∷ xs ≡ y ∷ ys → xs ≡ ys
tail_of e = cc

none_solved : (ts : List SimpleType) (before after : List Addition) (m : ℕ) (o : PlainObject) → map new ts ≡ before ++ solved m o ∷ after → ⊥
none_solved [] [] after m o e = cc
none_solved [] (b ∷ before) after m o e = cc
none_solved (t ∷ ts) [] after m o e = cc
none_solved (t ∷ ts) (b ∷ before) after m o e = none_solved ts before after m o (tail_of e)

final_at : (ts : List SimpleType) → All HasFinalResult ts → (m : ℕ) (a : SimpleType) → slice_get ts m ≡ Some a → HasFinalResult a
final_at ts p m a e = subst HasFinalResult (get_or_from_slice_get ts m a a e) (All-get_or HasFinalResult ts m a (slice_get_within ts m a e) p)

pub start_is_store : StartIsStore
start_is_store constants ts q final typed = record {
  store = λ before m o after e. absurd (none_solved ts before after m o e);
  final = subst (λ us. (m : ℕ) (a : SimpleType) → slice_get us m ≡ Some a → HasFinalResult a) (sym (new-types ts)) (final_at ts final);
  typed = subst (λ us. TypedEquations (slice_get constants) (slice_get us) q) (sym (new-types ts)) typed;
}

none_given : (ts : List SimpleType) (m : ℕ) → given (map new ts) m ≡ None
none_given [] m = refl
none_given (t ∷ ts) m = none_given ts m

pub start_is_fresh : StartIsFresh
start_is_fresh ts q = ap (λ us. problem (slice_get us) (given (map new ts))) (new-types ts) ∙ ap (problem (slice_get ts)) (ext (none_given ts))
  where
    problem : Types → Instantiation → Problem
    problem metas solutions = record { metas = metas; given = solutions; equations = q }

pub formed_type_has_no_variables : FormedTypeHasNoVariables
formed_type_has_no_variables arguments constants metas a p r = determined_type (renames_type r a) ((unmoved arguments (closed constants metas) (keeping r) kept).type a p)
  where
    kept : (h : Head) (t : SimpleType) → closed constants metas h ≡ Some t → keeping r h ≡ keep h
    kept (Const c) t e = refl
    kept (Var i) t e = absurd (cc)
    kept (Meta m) t e = refl
