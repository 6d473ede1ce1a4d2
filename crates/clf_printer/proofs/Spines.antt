-- The text of a neutral, along its spine.
use Rattle.std.proofs.Common.{◌≡◌, ℕ, ◌+◌, ◌<◌, Bool, List, [], ◌∷◌, ◌++◌, append_assoc, append-nil, length, take, get_or, map, refl, sym, ap, ◌∙◌, codes}
use Rattle.std.proofs.lemmas.List.{map-append}
use Rattle.clf_syntax.specs.declared.tree.Elim.{Elim}
use Rattle.clf_syntax.specs.declared.tree.Head.{Head}
use Rattle.clf_syntax.specs.declared.tree.Neutral.{Neutral}
use Rattle.clf_syntax.specs.Plain.{plain_elim, plain_neutral, plain-neutral}
use Rattle.clf_syntax.specs.Tree.{PlainNeutral, head_alone, app, fst, snd, PlainElimination, arg, first, second, eliminated, spine_on, head_of}
use Rattle.clf_sig.specs.Entry.{PlainSignature}
use Rattle.clf_printer.specs.Text.{when, grouped, is_application, is_atom, argument_text, head_text, object_text, neutral_text}
use Rattle.clf_printer.specs.Spine.{front_text, back_text, projection_text, elimination_text, is_argument}
use Rattle.clf_printer.proofs.Lists.{taken}

head_of-eliminated : (e : PlainElimination) (r : PlainNeutral) → head_of (eliminated e r) ≡ head_of r
head_of-eliminated (arg m n) r = refl
head_of-eliminated first r = refl
head_of-eliminated second r = refl

pub head_of-spine : (es : List PlainElimination) (r : PlainNeutral) → head_of (spine_on es r) ≡ head_of r
head_of-spine [] r = refl
head_of-spine (e ∷ es) r = head_of-spine es (eliminated e r) ∙ head_of-eliminated e r

spine_on-more : (es : List PlainElimination) (e : PlainElimination) (r : PlainNeutral) → spine_on (es ++ e ∷ []) r ≡ eliminated e (spine_on es r)
spine_on-more [] e r = refl
spine_on-more (d ∷ es) e r = spine_on-more es e (eliminated d r)

-- one more elimination of a spine
pub longer : (spine : List Elim) (i j : ℕ) (e : Elim) (h : Head) → j ≡ i + 1 → i < length spine → e ≡ get_or spine i e
    → spine_on (map plain_elim (take j spine)) (head_alone h) ≡ eliminated (plain_elim e) (spine_on (map plain_elim (take i spine)) (head_alone h))
longer spine i j e h n l k =
    ap (λ m. spine_on (map plain_elim (take m spine)) (head_alone h)) n
    ∙ ap (λ es. spine_on (map plain_elim es) (head_alone h)) (taken spine i e l k)
    ∙ ap (λ es. spine_on es (head_alone h)) (map-append plain_elim (take i spine) (e ∷ []))
    ∙ spine_on-more (map plain_elim (take i spine)) (plain_elim e) (head_alone h)

pub is_application-eliminated : (e : PlainElimination) (r : PlainNeutral) → is_application (eliminated e r) ≡ is_argument e
is_application-eliminated (arg m n) r = refl
is_application-eliminated first r = refl
is_application-eliminated second r = refl

pub front_text-eliminated : (e : PlainElimination) (r : PlainNeutral) → front_text (eliminated e r) ≡ projection_text (is_application r) e ++ front_text r
front_text-eliminated (arg m n) r = refl
front_text-eliminated first r = refl
front_text-eliminated second r = refl

module _ (sig : PlainSignature) (metas : List ℕ) (level : ℕ) where
  pub back_text-eliminated : (e : PlainElimination) (r : PlainNeutral) → back_text sig metas level (eliminated e r) ≡ back_text sig metas level r ++ elimination_text sig metas level (is_application r) e
  back_text-eliminated (arg m n) r = refl
  back_text-eliminated first r = refl
  back_text-eliminated second r = refl

  around : (sign f h b : List ℕ) (g : Bool) → sign ++ grouped g (f ++ (h ++ b)) ≡ (sign ++ when g (codes "(") ++ f) ++ (h ++ (b ++ when g (codes ")")))
  around sign f h b g =
      let before = when g (codes "(") in
      let behind = when g (codes ")") in
      ap (λ l. sign ++ l) (append_assoc before (f ++ (h ++ b)) behind ∙ ap (λ l. before ++ l) (append_assoc f (h ++ b) behind ∙ ap (λ l. f ++ l) (append_assoc h b behind)))
      ∙ sym (append_assoc sign before (f ++ (h ++ (b ++ behind))))
      ∙ sym (append_assoc (sign ++ before) f (h ++ (b ++ behind)))

  -- A neutral is what stands in front of its head, the head, and what stands after it.
  pub neutral_text-along : (r : PlainNeutral) → neutral_text sig metas level r ≡ front_text r ++ (head_text sig metas level (head_of r) ++ back_text sig metas level r)
  neutral_text-along (head_alone h) = sym (append-nil (head_text sig metas level h))
  neutral_text-along (app m r n) =
      let head = head_text sig metas level (head_of r) in
      let argument = argument_text m (is_atom n) (object_text sig metas level n) in
      ap (λ l. l ++ argument) (neutral_text-along r)
      ∙ append_assoc (front_text r) (head ++ back_text sig metas level r) argument
      ∙ ap (λ l. front_text r ++ l) (append_assoc head (back_text sig metas level r) argument)
  neutral_text-along (fst r) = ap (λ l. codes "#1 " ++ grouped (is_application r) l) (neutral_text-along r) ∙ around (codes "#1 ") (front_text r) (head_text sig metas level (head_of r)) (back_text sig metas level r) (is_application r)
  neutral_text-along (snd r) = ap (λ l. codes "#2 " ++ grouped (is_application r) l) (neutral_text-along r) ∙ around (codes "#2 ") (front_text r) (head_text sig metas level (head_of r)) (back_text sig metas level r) (is_application r)

  -- the pieces of a neutral, in turn
  pub neutral-appended : (n : Neutral) (spine : List Elim) (o p q r : List ℕ) → spine ≡ n.spine
      → p ≡ o ++ front_text (spine_on (map plain_elim spine) (head_alone n.head))
      → q ≡ p ++ head_text sig metas level n.head
      → r ≡ q ++ back_text sig metas level (spine_on (map plain_elim spine) (head_alone n.head))
      → r ≡ o ++ neutral_text sig metas level (plain_neutral n)
  neutral-appended n spine o p q r e u v w =
      let s = spine_on (map plain_elim spine) (head_alone n.head) in
      let f = front_text s in
      let h = head_text sig metas level n.head in
      let b = back_text sig metas level s in
      let plain : plain_neutral n ≡ s = plain-neutral n ∙ ap (λ es. spine_on (map plain_elim es) (head_alone n.head)) (sym e) in
      let all : r ≡ ((o ++ f) ++ h) ++ b = w ∙ ap (λ l. l ++ b) (v ∙ ap (λ l. l ++ h) u) in
      let regrouped : ((o ++ f) ++ h) ++ b ≡ o ++ (f ++ (h ++ b)) = append_assoc (o ++ f) h b ∙ append_assoc o f (h ++ b) in
      all
      ∙ regrouped
      ∙ ap (λ k. o ++ (f ++ (head_text sig metas level k ++ b))) (sym (head_of-spine (map plain_elim spine) (head_alone n.head)))
      ∙ ap (λ l. o ++ l) (sym (neutral_text-along s) ∙ ap (λ x. neutral_text sig metas level x) (sym plain))

  -- an elimination after a neutral
  pub elimination-appended : (spine : List Elim) (i : ℕ) (act : Elim) (applied : Bool) (o p q : List ℕ) (h : Head) → i < length spine → act ≡ get_or spine i act
      → applied ≡ is_application (spine_on (map plain_elim (take i spine)) (head_alone h))
      → p ≡ o ++ back_text sig metas level (spine_on (map plain_elim (take i spine)) (head_alone h))
      → q ≡ p ++ elimination_text sig metas level applied (plain_elim act)
      → q ≡ o ++ back_text sig metas level (spine_on (map plain_elim (take (i + 1) spine)) (head_alone h))
  elimination-appended spine i act applied o p q h l e a u v =
      let before = spine_on (map plain_elim (take i spine)) (head_alone h) in
      let back = back_text sig metas level before in
      let more = longer spine i (i + 1) act h refl l e in
      v
      ∙ ap (λ x. x ++ elimination_text sig metas level applied (plain_elim act)) u
      ∙ append_assoc o back (elimination_text sig metas level applied (plain_elim act))
      ∙ ap (λ x. o ++ (back ++ elimination_text sig metas level x (plain_elim act))) a
      ∙ ap (λ x. o ++ x) (sym (ap (λ x. back_text sig metas level x) more ∙ back_text-eliminated (plain_elim act) before))
