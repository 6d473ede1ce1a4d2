use Rattle.std.proofs.Common.{rules, subst}
use Rattle.std.specs.List.Sorted.{IsPermutation}
use Rattle.std.proofs.lemmas.List.Sorted.{IsNonDecreasingBy-from_sort_by_key}
use Rattle.celf_implicit.specs.declared.appearance.First.{First}
use Rattle.celf_implicit.proofs.appearance.by_bytes.Goals as goal

pub returns : goal.returns
returns c = record {
  sorted = c.sort_unstable_by_key.new.self.items;
  same = subst (λ fs. IsPermutation fs c.sort_unstable_by_key.new.self.items) c.in_ok-sorted.ensures.items c.sort_unstable_by_key.ensures.permutation;
  rising = IsNonDecreasingBy-from_sort_by_key (λ (f : First). f.byte) _ c.sort_unstable_by_key.ensures.sorted (λ a r q k. search rules);
  numbers = rw (← c.as_slice.ensures.value) c.in_ok-numbers.ensures;
}
