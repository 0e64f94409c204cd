use Rattle.std.proofs.Common.{rules, ℤ, Bool}
use Rattle.std.specs.Prelude.{IsTrue}
use Rattle.std.proofs.lemmas.List.Sorted.{IsPermutation-map, All-permutation, answers_always}
use Rattle.match_model.specs.Numbers.{is_from}
use Rattle.range_split.specs.Cuts.{plain_cut, plain_cuts}
use Rattle.range_split.proofs.Sorting.{key_of, rise_sorted}
use Rattle.range_split.proofs.Splits.{All-unmap}
use Rattle.range_split.proofs.cuts.Cuts.sort.Goals as goal

pub returns-clause-same : goal.returns-clause-same
returns-clause-same c = IsPermutation-map plain_cut c.args.self.now.places.items c.sort_by_key.new.self.items c.in_ok-sort_by_key.ensures.permutation

pub returns-clause-rising : goal.returns-clause-rising
returns-clause-rising c = λ low from.
    rise_sorted low c.sort_by_key.new.self.items
    (All-unmap (λ (x : ℤ × Bool). IsTrue (is_from low x.0)) plain_cut c.sort_by_key.new.self.items
    (All-permutation (λ (x : ℤ × Bool). IsTrue (is_from low x.0)) (plain_cuts c.args.self.now.places.items) (plain_cuts c.sort_by_key.new.self.items)
    (IsPermutation-map plain_cut c.args.self.now.places.items c.sort_by_key.new.self.items c.in_ok-sort_by_key.ensures.permutation) from))
    (c.in_ok-sort_by_key.ensures.sorted key_of (answers_always _ _ _ (λ f a r g k. search rules)))
