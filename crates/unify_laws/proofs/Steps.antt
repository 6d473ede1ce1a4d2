-- Steps that keep the solutions: the order of steps, and the parts of an equation.
use Rattle.clf_syntax.specs.Simple.{Assignment, SimplyTypedNeutral}
use Rattle.std.specs.Prelude.{◌≡◌, false, List, ◌∷◌, length, refl}
use Rattle.std.proofs.Common.{sym, subst, ◌∙◌}
use Rattle.clf_syntax.specs.declared.tree.Mode.{Mode}
use Rattle.clf_syntax.specs.declared.tree.Head.{Head}
use Rattle.clf_syntax.specs.Tree.{PlainObject, lam, pair, atomic, PlainNeutral, head_alone, app, fst, snd, head_of}
use Rattle.clf_syntax.specs.TypeTree.{SimpleType, arrow, simple_with}
use Rattle.hered_subst.specs.Substitution.{Image, keep, Environment, Substituted, through_lam, through_pair, through_kept, KeepsHead, kept_bare, kept_app, kept_fst, kept_snd}
use Rattle.hered_subst.specs.TypedEnvironments.{is_metavariable}
use Rattle.subst_laws.specs.Environments.{Instantiation, instant}
use Rattle.trace_equal.specs.Exchange.{in_lam, in_left, in_right, Joined}
use Rattle.trace_equal.specs.Matching.{Matches, match_atomic, MatchesNeutral, match_bare, match_app, match_fst, match_snd}
use Rattle.trace_equal.proofs.Closed.{carried, trail, joined, like_to, alike}
use Rattle.joined_laws.proofs.Respect.{bodies, firsts}
use Rattle.pattern_laws.specs.Instantiations.{Types, Instantiates}
use Rattle.pattern_laws.specs.Equations.{Equation, Solves, SolvesEach, Locals}
use Rattle.pattern_laws.proofs.Spines.{under_instant, body}
use Rattle.pattern_laws.proofs.Instances.{instance, respected}
use Rattle.unify_laws.specs.Problems.{Problem, KeepsSolutions, Grows}
use Rattle.unify_laws.specs.Parts.{SameShape, shape_head, shape_app, shape_fst, shape_snd, PartAt, part_here, part_function, part_fst, part_snd}
use Rattle.unify_laws.specs.Laws.{NoneBack, JoinedSolved}
use Rattle.unify_laws.proofs.RigidPlaces.{parts, keeps_head, KeepsOthers, keeps_others}

pub keeps_same : (constants : Types) (p : Problem) → KeepsSolutions constants p p
keeps_same constants p = ((λ parameters t s. (t, (λ m a e. refl), s)), (λ parameters t s. s))

pub keeps_then : (constants : Types) (p q r : Problem) → Grows p.metas q.metas → KeepsSolutions constants p q → KeepsSolutions constants q r → KeepsSolutions constants p r
keeps_then constants p q r g k l = (
  (λ parameters t s. let (v, e, u) = k.0 parameters t s in let (w, f, x) = l.0 parameters v u in (w, (λ m a h. f m a (g m a h) ∙ e m a h), x)),
  (λ parameters t s. k.1 parameters t (l.1 parameters t s)),
)

-- What comes of a problem without solutions had none.
pub none_back : NoneBack
none_back constants p q k h parameters t s = let (v, e, u) = k.0 parameters t s in h parameters v u

-- Where only equations change, it is enough that each instantiation solves the one list exactly where it solves the other.
pub by_equations : (constants metas : Types) (given : Instantiation) (es fs : List Equation)
    → ((parameters : Types) (t : Instantiation) → Instantiates constants metas parameters t → (SolvesEach (instant t) es → SolvesEach (instant t) fs) × (SolvesEach (instant t) fs → SolvesEach (instant t) es))
    → KeepsSolutions constants (record { metas = metas; given = given; equations = es }) (record { metas = metas; given = given; equations = fs })
by_equations constants metas given es fs f = (
  (λ parameters t s. (t, (λ m a e. refl), (s.0, s.1, (f parameters t s.0).0 s.2))),
  (λ parameters t s. (s.0, s.1, (f parameters t s.0).1 s.2)),
)

-- Lambdas are joined exactly where their bodies are.
pub lam_part : (t : Instantiation) (ls : Locals) (d : SimpleType) (m : Mode) (b c : PlainObject) (a e : SimpleType)
    → (Solves (instant t) (record { locals = ls; left = lam m b; right = lam m c; type = a }) → Solves (instant t) (record { locals = (m, d) ∷ ls; left = b; right = c; type = e }))
    × (Solves (instant t) (record { locals = (m, d) ∷ ls; left = b; right = c; type = e }) → Solves (instant t) (record { locals = ls; left = lam m b; right = lam m c; type = a }))
lam_part t ls d m b c a e = (
  (λ s. let (x, y, p, q, j) = s in let (u, f, g) = body p in let (v, h, i) = body q in (
    u,
    v,
    subst (λ z. Substituted z b u) (under_instant (length ls) t) g,
    subst (λ z. Substituted z c v) (under_instant (length ls) t) i,
    bodies (subst (λ z. Joined z (lam m v)) f (subst (λ z. Joined x z) h j)),
  )),
  (λ s. let (x, y, p, q, j) = s in (
    lam m x,
    lam m y,
    through_lam (subst (λ z. Substituted z b x) (sym (under_instant (length ls) t)) p),
    through_lam (subst (λ z. Substituted z c y) (sym (under_instant (length ls) t)) q),
    carried (lam m) (λ _ _ z. in_lam z) j,
  )),
)

-- Pairs are joined exactly where their parts are.
pub pair_parts : (t : Instantiation) (ls : Locals) (l k r s : PlainObject) (a c d : SimpleType)
    → (Solves (instant t) (record { locals = ls; left = pair l r; right = pair k s; type = a }) → Solves (instant t) (record { locals = ls; left = l; right = k; type = c }) × Solves (instant t) (record { locals = ls; left = r; right = s; type = d }))
    × (Solves (instant t) (record { locals = ls; left = l; right = k; type = c }) × Solves (instant t) (record { locals = ls; left = r; right = s; type = d }) → Solves (instant t) (record { locals = ls; left = pair l r; right = pair k s; type = a }))
pair_parts t ls l k r s a c d = (
  (λ e. let (x, y, p, q, j) = e in let (x1, x2, f, g, h) = parts p in let (y1, y2, f', g', h') = parts q in
      let w = firsts (subst (λ z. Joined z (pair y1 y2)) f (subst (λ z. Joined x z) f' j)) in
      ((x1, y1, g, g', w.0), (x2, y2, h, h', w.1))),
  (λ e. let (x, y, p, q, j) = e.0 in let (x', y', p', q', j') = e.1 in
      (pair x x', pair y y', through_pair p p', through_pair q q', trail (carried (λ z. pair z x') (λ _ _ z. in_left z) j) (carried (λ z. pair y z) (λ _ _ z. in_right z) j'))),
)

joined_match : {x y : PlainObject} → Joined x y → Matches x y
joined_match {x = x} j = like_to (alike x) j

app_match : {m k : Mode} {r s : PlainNeutral} {o u : PlainObject} → MatchesNeutral (app m r o) (app k s u) → MatchesNeutral r s × Matches o u
app_match (match_app a b) = (a, b)

fst_match : {r s : PlainNeutral} → MatchesNeutral (fst r) (fst s) → MatchesNeutral r s
fst_match (match_fst a) = a

snd_match : {r s : PlainNeutral} → MatchesNeutral (snd r) (snd s) → MatchesNeutral r s
snd_match (match_snd a) = a

atomic_match : {r s : PlainNeutral} → Matches (atomic r) (atomic s) → MatchesNeutral r s
atomic_match (match_atomic a) = a

-- what an environment makes of both is joined
abbrev Joins : Environment → PlainObject → PlainObject → Type 0
Joins s o u = (x y : PlainObject) × Substituted s o x × Substituted s u y × Joined x y

part_joined : {g : Assignment} {o u : PlainObject} {c : SimpleType} {r n : PlainNeutral} → PartAt g o u c r n → {s : Environment} {x y : PlainNeutral} → KeepsHead s r x → KeepsHead s n y → MatchesNeutral x y → Joins s o u
part_joined (part_here e t) (kept_app {y = v} p c) (kept_app {y = w} q d) m = (v, w, c, d, joined (app_match m).1)
part_joined (part_function a) (kept_app p c) (kept_app q d) m = part_joined a p q (app_match m).0
part_joined (part_fst a) (kept_fst p) (kept_fst q) m = part_joined a p q (fst_match m)
part_joined (part_snd a) (kept_snd p) (kept_snd q) m = part_joined a p q (snd_match m)

parts_found : (g : Assignment) {r n : PlainNeutral} → SameShape r n → (a : SimpleType) → SimplyTypedNeutral g r a → {s : Environment} → KeepsOthers s → ((o u : PlainObject) (c : SimpleType) → PartAt g o u c r n → Joins s o u)
    → (x y : PlainNeutral) × KeepsHead s r x × KeepsHead s n y × MatchesNeutral x y
parts_found g (shape_head {h = h} e) a t k f = (head_alone h, head_alone h, kept_bare (k h e), kept_bare (k h e), match_bare)
parts_found g (shape_app {m = m} {r = r} {s = n} {o = o} {u = u} c) a t k f = let (x, y, p, q, j) = parts_found g c (arrow m t.0 a) t.1 k (λ o u c q. f o u c (part_function q)) in
    let (v, w, i, l, z) = f o u t.0 (part_here a t.1) in (app m x v, app m y w, kept_app p i, kept_app q l, match_app j (joined_match z))
parts_found g (shape_fst c) a t k f = let (x, y, p, q, j) = parts_found g c (simple_with a t.0) t.1 k (λ o u c q. f o u c (part_fst q)) in (fst x, fst y, kept_fst p, kept_fst q, match_fst j)
parts_found g (shape_snd c) a t k f = let (x, y, p, q, j) = parts_found g c (simple_with t.0 a) t.1 k (λ o u c q. f o u c (part_snd q)) in (snd x, snd y, kept_snd p, kept_snd q, match_snd j)

kept_match : {x y : PlainNeutral} → MatchesNeutral x y → {s : Environment} {r n : PlainNeutral} → KeepsHead s r x → KeepsHead s n y → KeepsOthers s → is_metavariable (head_of r) ≡ false → is_metavariable (head_of n) ≡ false → SameShape r n
kept_match match_bare (kept_bare {h = a} e) (kept_bare {h = b} e') k f g = subst (λ c. SameShape (head_alone a) (head_alone c)) (sym (head_one (k a f) e) ∙ head_one (k b g) e') (shape_head f)
  where
    head_one : {i : Image} {a j : Head} → i ≡ keep a → i ≡ keep j → j ≡ a
    head_one e f = cc
kept_match (match_app l d) (kept_app p c) (kept_app q c') k f g = shape_app (kept_match l p q k f g)
kept_match (match_fst l) (kept_fst p) (kept_fst q) k f g = shape_fst (kept_match l p q k f g)
kept_match (match_snd l) (kept_snd p) (kept_snd q) k f g = shape_snd (kept_match l p q k f g)

matched : {x y : PlainObject} {r n : PlainNeutral} → x ≡ atomic r → y ≡ atomic n → Joined x y → MatchesNeutral r n
matched {x = x} {r = r} {n = n} e f j = atomic_match (joined_match (subst (λ z. Joined z (atomic n)) e (subst (λ z. Joined x z) f j)))

pub shape_heads : {r n : PlainNeutral} → SameShape r n → (is_metavariable (head_of r) ≡ false) × (is_metavariable (head_of n) ≡ false)
shape_heads (shape_head e) = (e, e)
shape_heads (shape_app c) = shape_heads c
shape_heads (shape_fst c) = shape_heads c
shape_heads (shape_snd c) = shape_heads c

-- Neutrals with the same constant or variable as head and spines of one shape are joined exactly where their arguments are.
pub neutral_part : (t : Instantiation) (ls : Locals) (g : Assignment) (r n : PlainNeutral) (a : SimpleType) → SameShape r n → Solves (instant t) (record { locals = ls; left = atomic r; right = atomic n; type = a })
    → (o u : PlainObject) (c : SimpleType) → PartAt g o u c r n → Solves (instant t) (record { locals = ls; left = o; right = u; type = c })
neutral_part t ls g r n a h s o u c q = let (x, y, i, k, j) = s in let (v, e, p) = keeps_head (length ls) t (shape_heads h).0 i in let (w, f, l) = keeps_head (length ls) t (shape_heads h).1 k in part_joined q p l (matched e f j)

pub neutral_whole : (t : Instantiation) (ls : Locals) (g : Assignment) (r n : PlainNeutral) (a : SimpleType) → SameShape r n → SimplyTypedNeutral g r a
    → ((o u : PlainObject) (c : SimpleType) → PartAt g o u c r n → Solves (instant t) (record { locals = ls; left = o; right = u; type = c }))
    → Solves (instant t) (record { locals = ls; left = atomic r; right = atomic n; type = a })
neutral_whole t ls g r n a h p f = let (x, y, i, k, j) = parts_found g h a p (keeps_others (length ls) t) f in (atomic x, atomic y, through_kept i, through_kept k, joined (match_atomic j))

-- Clash: other heads or shapes are joined by no instantiation.
pub neutral_clash : (t : Instantiation) (ls : Locals) (r n : PlainNeutral) (a : SimpleType) → is_metavariable (head_of r) ≡ false → is_metavariable (head_of n) ≡ false
    → (SameShape r n → ⊥) → Solves (instant t) (record { locals = ls; left = atomic r; right = atomic n; type = a }) → ⊥
neutral_clash t ls r n a f g h s = let (x, y, p, q, j) = s in let (u, e, k) = keeps_head (length ls) t f p in let (v, i, l) = keeps_head (length ls) t g q in
    h (kept_match (matched e i j) k l (keeps_others (length ls) t) f g)

-- Joined sides are solved by each instantiation.
pub joined_solved : JoinedSolved
joined_solved constants metas parameters t f e ty j = let (x, p, _) = instance constants metas parameters t f e.locals e.left e.type ty.0 in let (y, q, _) = instance constants metas parameters t f e.locals e.right e.type ty.1 in
    (x, y, p, q, respected constants metas parameters t f e.locals e.left e.right e.type ty.0 j x y p q)
