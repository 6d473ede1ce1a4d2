-- What a row has taken of a holding is the least of the parts that it stands for, and the row is the rest.
use Rattle.std.proofs.Common.{◌≡◌, Bool, true, false, List, [], ◌∷◌, length, refl, ap, arith}
use Rattle.clf_syntax.specs.declared.tree.Mode.{Mode}
use Rattle.clf_syntax.specs.declared.tree.Mode.TheVariants.{Persistent, Affine, Linear}
use Rattle.clf_syntax.specs.TypeTree.{PlainTelescope, end, binding}
use Rattle.use_contexts.specs.Context.{Context, modes, telescope_modes, with_entries}
use Rattle.use_contexts.specs.Holding.{Holding, Split, WellMarked, all_held}
use Rattle.use_contexts.specs.Rows.{implies, within, stands, newest, older, EachWithin, EachStands, IsSubholding, Stands}
use Rattle.use_contexts.proofs.Bits.{at_entry, given_2, given_3}
use Rattle.use_contexts.proofs.RowLaws.{IsSubholding-first}
use Rattle.use_contexts.proofs.Splits.{splits, EachSplit, split_each, each_split}
use Rattle.use_contexts.proofs.UseLaws.{IsSubholding-self}
use Rattle.clf_rules.proofs.UsedParts.{used, used_of, length-used_of}
use Rattle.typing_laws.proofs.SplitLaws.{split_commutes}
use Rattle.trace_runs.specs.Run.{IsWithin}

-- ---- the sides of a split
pub first-part : (ms : List Mode) (h p q : Holding) → WellMarked ms h → Split ms h p q → IsSubholding ms h p
first-part ms h p q w s = IsSubholding-first ms h h p q s (IsSubholding-self ms h w)

pub second-part : (ms : List Mode) (h p q : Holding) → WellMarked ms h → Split ms h p q → IsSubholding ms h q
second-part ms h p q w s = first-part ms h q p w (split_commutes ms h p q s)

entry_rest : (m : Mode) (h a b c : Bool) → splits m h a b ≡ true → splits m h a c ≡ true → b ≡ true → c ≡ true
entry_rest m h a b c x y z =
    given_3 (splits m h a b) (splits m h a c) b c
    (at_entry (λ m h a b c _ _ _ _. implies (splits m h a b) (implies (splits m h a c) (implies b c))) refl refl refl m h a b c true true true true) x y z

rest_within : (ms : List Mode) (h a b c : Holding) → length b ≡ length ms → length c ≡ length ms → EachSplit ms h a b → EachSplit ms h a c → IsWithin b c
rest_within [] h a [] c n k x y = tt
rest_within [] h a (z ∷ b) c n k x y = absurd (omega arith)
rest_within (m ∷ ms) h a [] c n k x y = tt
rest_within (m ∷ ms) h a (z ∷ b) [] n k x y = absurd (omega arith)
rest_within (m ∷ ms) h a (z ∷ b) (v ∷ c) n k x y = (entry_rest m (newest h) (newest a) z v x.0 y.0, rest_within ms (older h) (older a) b c (omega arith) (omega arith) x.1 y.1)

pub within_both : (p q : Holding) → IsWithin p q → IsWithin q p → p ≡ q
within_both [] [] a b = refl
within_both [] (y ∷ q) a b = absurd b
within_both (x ∷ p) [] a b = absurd a
within_both (true ∷ p) (true ∷ q) a b = ap (λ r. true ∷ r) (within_both p q a.1 b.1)
within_both (false ∷ p) (false ∷ q) a b = ap (λ r. false ∷ r) (within_both p q a.1 b.1)
within_both (true ∷ p) (false ∷ q) a b = let e = a.0 refl in absurd (cc)
within_both (false ∷ p) (true ∷ q) a b = let e = b.0 refl in absurd (cc)

-- The first side of a split leaves one second side.
pub rest-is-one : (ms : List Mode) (h a b c : Holding) → Split ms h a b → Split ms h a c → b ≡ c
rest-is-one ms h a b c x y =
    let u = split_each ms h a b x in
    let v = split_each ms h a c y in
    within_both b c (rest_within ms h a b c u.2 v.2 u.0 v.0) (rest_within ms h a c b v.2 u.2 v.0 u.0)

-- ---- what is taken
used_splits : (m : Mode) (h l : Bool) → within m h h ≡ true → within m h l ≡ true → splits m h (used m h l) l ≡ true
used_splits m h l a b =
    given_2 (within m h h) (within m h l) (splits m h (used m h l) l)
    (at_entry (λ m h l _ _ _ _ _ _. implies (within m h h) (implies (within m h l) (splits m h (used m h l) l))) refl refl refl m h l true true true true true true) a b

each_taken : (ms : List Mode) (h l : Holding) → EachWithin ms h h → EachWithin ms h l → EachSplit ms h (used_of ms h l) l
each_taken [] h l a b = tt
each_taken (m ∷ ms) h l a b = (used_splits m (newest h) (newest l) a.0 b.0, each_taken ms (older h) (older l) a.1 b.1)

-- The holding is split into what is taken and the row.
pub splits-off : (ms : List Mode) (h l : Holding) → WellMarked ms h → IsSubholding ms h l → Split ms h (used_of ms h l) l
splits-off ms h l w a =
    let self = IsSubholding-self ms h w in
    each_split ms h (used_of ms h l) l self.0 (length-used_of ms h l) a.0 (each_taken ms h l self.1 a.1)

used_held : (m : Mode) (h l s p : Bool) → stands m h l s p ≡ true → used m h l ≡ true → p ≡ true
used_held m h l s p a b =
    given_2 (stands m h l s p) (used m h l) p
    (at_entry (λ m h l s p _ _ _ _. implies (stands m h l s p) (implies (used m h l) p)) refl refl refl m h l s p true true true true) a b

each_within : (ms : List Mode) (h l : Holding) (s : Bool) (p : Holding) → length p ≡ length ms → EachStands ms h l s p → IsWithin (used_of ms h l) p
each_within [] h l s p n a = tt
each_within (m ∷ ms) h l s [] n a = absurd (omega arith)
each_within (m ∷ ms) h l s (x ∷ p) n a = (used_held m (newest h) (newest l) s x a.0, each_within ms (older h) (older l) s p (omega arith) a.1)

-- Each part that the row stands for has what is taken.
pub taken-within : (ms : List Mode) (h l : Holding) (s : Bool) (p : Holding) → Stands ms h l s p → IsWithin (used_of ms h l) p
taken-within ms h l s p a = each_within ms h l s p a.0 a.1

-- ---- under the entries of a telescope
held_itself : (m : Mode) → within m true true ≡ true
held_itself Persistent = refl
held_itself Affine = refl
held_itself Linear = refl

pub entered-part : (u : PlainTelescope) (g : Context) (h p : Holding) → IsSubholding (modes g) h p
    → IsSubholding (modes (with_entries u g)) (all_held (telescope_modes u) h) (all_held (telescope_modes u) p)
entered-part end g h p a = a
entered-part (binding m t u) g h p a = entered-part u ((m, t) ∷ g) (true ∷ h) (true ∷ p) (let n = a.0 in omega arith, (held_itself m, a.1))
