use Rattle.std.proofs.Common.{ap, sym, ◌∙◌}
use Rattle.std.specs.List.{slice_get}
use Rattle.pattern_laws.specs.Equations.{scoped}
use Rattle.pattern_laws.specs.Instantiations.{closed}
use Rattle.celf_unify.specs.Gathered.{consts_in, metas_in}
use Rattle.celf_unify.proofs.Insides.{const_type, meta_type, local_type}
use Rattle.celf_unify.proofs.apart.head_type.Goals as goal

pub returns-in-Const : goal.returns-in-Const
returns-in-Const c ls e = c.type_at.ensures ∙ ap (λ ts. slice_get ts c.in-Const.place) c.consts.ensures ∙ const_type ls (consts_in c.args.store.now) (metas_in c.args.store.now) c.in-Const.place ∙ ap (scoped ls (closed (consts_in c.args.store.now) (metas_in c.args.store.now))) (sym c.in-Const.is)

pub returns-in-Meta : goal.returns-in-Meta
returns-in-Meta c ls e = c.type_at-in-Meta.ensures ∙ ap (λ ts. slice_get ts c.in-Meta.meta) c.metas.ensures ∙ meta_type ls (consts_in c.args.store.now) (metas_in c.args.store.now) c.in-Meta.meta ∙ ap (scoped ls (closed (consts_in c.args.store.now) (metas_in c.args.store.now))) (sym c.in-Meta.is)

pub returns-in-Var : goal.returns-in-Var
returns-in-Var c ls e = c.local_type.ensures ∙ ap (λ ts. slice_get ts c.in-Var.index) e ∙ local_type ls (consts_in c.args.store.now) (metas_in c.args.store.now) c.in-Var.index ∙ ap (scoped ls (closed (consts_in c.args.store.now) (metas_in c.args.store.now))) (sym c.in-Var.is)
