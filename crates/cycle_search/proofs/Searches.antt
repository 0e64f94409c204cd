-- The search from a node.
use Rattle.std.proofs.Common.{◌≡◌, ◌+◌, ℕ, ◌<◌, ◌≤◌, ◌⊎◌, Bool, true, false, List, [], ◌∷◌, ◌++◌, length, get_or, set, replicate, zero, suc, refl, sym, ap, subst, ◌∙◌, arith, inl, inr, ⊎_elim}
use Rattle.std.specs.List.{All, Contains}
use Rattle.std.proofs.lemmas.List.{get_or-set_same, get_or-set_other, get_or_default, get_or_append_left, length-set, length_push, length-replicate}
use Rattle.std.proofs.lemmas.List.Elements.{All-push, All-nil, Contains-append_left, Contains-push}
use Rattle.std.proofs.lemmas.Bool.{cases_eq, cases_lt}
use Rattle.cycle_search.specs.Graphs.{IsEdge, Reaches, by_edge, by_way}
use Rattle.cycle_search.proofs.Ways.{goes_on}
use Rattle.cycle_search.specs.Searched.{IsReached, IsDone, IsSearched, unmarked}

unmarked_falls : (marks : List Bool) (h : ℕ) → h < length marks → get_or marks h false ≡ false →
    unmarked (set marks h true) + 1 ≡ unmarked marks
unmarked_falls [] h l e = absurd (omega arith)
unmarked_falls (true ∷ bs) zero l e = cc
unmarked_falls (false ∷ bs) zero l e = refl
unmarked_falls (true ∷ bs) (suc h) l e = unmarked_falls bs h (omega arith) e
unmarked_falls (false ∷ bs) (suc h) l e = ap (λ n. n + 1) (unmarked_falls bs h (omega arith) e)

unmarked_all : (n : ℕ) → unmarked (replicate n false) ≡ n
unmarked_all zero = refl
unmarked_all (suc n) = let r = unmarked_all n in omega arith

unreached : (n k : ℕ) → get_or (replicate n false) k false ≡ false
unreached zero k = refl
unreached (suc n) zero = refl
unreached (suc n) (suc k) = unreached n k

-- a mark stays where another is made
reached_more : (marks : List Bool) (t k : ℕ) → t < length marks → IsReached marks k → IsReached (set marks t true) k
reached_more marks t k within held =
    ⊎_elim (λ e. ap (λ x. get_or (set marks t true) x false) e ∙ get_or-set_same marks t true false within)
    (λ n. get_or-set_other marks t k true false n ∙ held)
    (cases_eq k t)

-- the search as it begins
pub begins : (graph : List (List ℕ)) (start : ℕ) (marks : List Bool) (trail : List ℕ) → start < length graph →
    marks ≡ replicate (length graph) false → trail ≡ start ∷ [] → IsSearched graph start marks trail 0
begins graph start marks trail within is one =
    let len : length trail ≡ 1 = ap length one in
    let count : unmarked marks ≡ length graph = ap unmarked is ∙ unmarked_all (length graph) in
    let alone : Contains trail start = (0, omega arith, ap (λ (xs : List ℕ). get_or xs 0 start) one) in
    record {
      len = ap length is ∙ length-replicate (length graph) false;
      total = omega arith;
      begin = alone;
      marked = λ k held. let no : get_or marks k false ≡ false = ap (λ (ms : List Bool). get_or ms k false) is ∙ unreached (length graph) k in cc;
      reached = subst (All (λ x. (x ≡ start) ⊎ Reaches graph start x)) (sym one) (All-push (λ x. (x ≡ start) ⊎ Reaches graph start x) [] start (All-nil (λ x. (x ≡ start) ⊎ Reaches graph start x)) (inl refl));
      within = subst (All (λ x. x < length graph)) (sym one) (All-push (λ x. x < length graph) [] start (All-nil (λ x. x < length graph)) within);
      reach = omega arith;
      finished = λ k l. absurd (omega arith);
    }

-- a node that is reached is marked and comes to the end of the trail
pub reaches_more : (graph : List (List ℕ)) (start : ℕ) (marks : List Bool) (trail : List ℕ) (done t : ℕ) →
    IsSearched graph start marks trail done → Reaches graph start t → t < length graph → get_or marks t false ≡ false →
    IsSearched graph start (set marks t true) (trail ++ t ∷ []) done
reaches_more graph start marks trail done t s way within new =
    let in_marks : t < length marks = subst (λ n. t < n) (sym s.len) within in
    let count = unmarked_falls marks t in_marks new in
    let longer = length_push trail t in
    let total = s.total in
    let reach = s.reach in
    record {
      len = length-set marks t true ∙ s.len;
      total = omega arith;
      begin = Contains-append_left trail (t ∷ []) start s.begin;
      marked = λ k held. ⊎_elim
          (λ e. subst (Contains (trail ++ t ∷ [])) (sym e) (Contains-push trail t))
          (λ n. Contains-append_left trail (t ∷ []) k (s.marked k (sym (get_or-set_other marks t k true false n) ∙ held)))
          (cases_eq k t);
      reached = All-push (λ x. (x ≡ start) ⊎ Reaches graph start x) trail t s.reached (inr way);
      within = All-push (λ x. x < length graph) trail t s.within within;
      reach = omega arith;
      finished = λ k l to e.
          let old = s.finished k l to (subst (λ x. IsEdge graph x to) (get_or_append_left trail (t ∷ []) 0 k (omega arith)) e) in
          (reached_more marks t to in_marks old.0, old.1);
    }

-- one more node of the trail is done
pub done_more : (graph : List (List ℕ)) (start : ℕ) (marks : List Bool) (trail : List ℕ) (done : ℕ) →
    IsSearched graph start marks trail done → done < length trail → IsDone graph start marks (get_or trail done 0) →
    IsSearched graph start marks trail (done + 1)
done_more graph start marks trail done s more here = record {
  len = s.len;
  total = s.total;
  begin = s.begin;
  marked = s.marked;
  reached = s.reached;
  within = s.within;
  reach = omega arith;
  finished = λ k l. ⊎_elim
      (λ low. s.finished k low)
      (λ high. let e : k ≡ done = omega arith in subst (λ x. IsDone graph start marks (get_or trail x 0)) (sym e) here)
      (cases_lt k done);
}

-- where the whole trail is done no way leads back
pub no_way_back : (graph : List (List ℕ)) (start : ℕ) (marks : List Bool) (trail : List ℕ) (done : ℕ) →
    IsSearched graph start marks trail done → length trail ≤ done → Reaches graph start start → ⊥
no_way_back graph start marks trail done s all r = away graph start marks trail done s all start start s.begin r refl
  where
    is_done : (graph : List (List ℕ)) (start : ℕ) (marks : List Bool) (trail : List ℕ) (done : ℕ) →
        IsSearched graph start marks trail done → length trail ≤ done → (node : ℕ) → Contains trail node → IsDone graph start marks node
    is_done graph start marks trail done s all node c =
        let l : c.0 < length trail = c.1 in
        let e : get_or trail c.0 0 ≡ node = get_or_default trail c.0 0 node c.1 ∙ c.2 in
        subst (IsDone graph start marks) e (s.finished c.0 (omega arith))

    away : (graph : List (List ℕ)) (start : ℕ) (marks : List Bool) (trail : List ℕ) (done : ℕ) →
        IsSearched graph start marks trail done → length trail ≤ done →
        (node to : ℕ) → Contains trail node → Reaches graph node to → to ≡ start → ⊥
    away graph start marks trail done s all node to c (by_edge e) same = (is_done graph start marks trail done s all node c to e).1 same
    away graph start marks trail done s all node to c (by_way {over = o} e r) same =
        away graph start marks trail done s all o to (s.marked o (is_done graph start marks trail done s all node c o e).0) r same

-- the search, and how far it has come with the targets of the node that it goes on from
pub record IsGoing (graph : List (List ℕ)) (start : ℕ) (items : List ℕ) (from : ℕ) (marks : List Bool) (trail : List ℕ) (done place : ℕ) : Type 0 where
  pub searched : IsSearched graph start marks trail done
  pub front : (k : ℕ) → k < place → IsReached marks (get_or items k 0) × (get_or items k 0 ≡ start → ⊥)
  pub from_is : get_or trail done 0 ≡ from
  pub more : done < length trail

-- the node that the search goes on from is the start or reached from it
pub from_known : (graph : List (List ℕ)) (start : ℕ) (items : List ℕ) (from : ℕ) (marks : List Bool) (trail : List ℕ) (done place : ℕ) →
    IsGoing graph start items from marks trail done place → (from ≡ start) ⊎ Reaches graph start from
from_known graph start items from marks trail done place s =
    subst (λ x. (x ≡ start) ⊎ Reaches graph start x) s.from_is (s.searched.reached done 0 s.more)

-- the node that the search goes on from is a node of the graph
pub from_within : (graph : List (List ℕ)) (start : ℕ) (items : List ℕ) (from : ℕ) (marks : List Bool) (trail : List ℕ) (done place : ℕ) →
    IsGoing graph start items from marks trail done place → from < length graph
from_within graph start items from marks trail done place s = subst (λ x. x < length graph) s.from_is (s.searched.within done 0 s.more)

-- a target that is reached for the first time
pub target_new : (graph : List (List ℕ)) (start : ℕ) (items : List ℕ) (from : ℕ) (marks : List Bool) (trail : List ℕ) (done place : ℕ) →
    IsGoing graph start items from marks trail done place → IsEdge graph from (get_or items place 0) → get_or items place 0 < length graph →
    (get_or items place 0 ≡ start → ⊥) → get_or marks (get_or items place 0) false ≡ false →
    IsGoing graph start items from (set marks (get_or items place 0) true) (trail ++ get_or items place 0 ∷ []) done (place + 1)
target_new graph start items from marks trail done place s e within apart new =
    let t : ℕ = get_or items place 0 in
    let in_marks : t < length marks = subst (λ n. t < n) (sym s.searched.len) within in
    let longer = length_push trail t in
    let more = s.more in
    record {
      searched = reaches_more graph start marks trail done t s.searched (goes_on graph start from t (from_known graph start items from marks trail done place s) e) within new;
      front = λ k l. ⊎_elim
          (λ low. (reached_more marks t (get_or items k 0) in_marks (s.front k low).0, (s.front k low).1))
          (λ high.
          let same : k ≡ place = omega arith in
          subst (λ x. IsReached (set marks t true) (get_or items x 0) × (get_or items x 0 ≡ start → ⊥)) (sym same)
          (get_or-set_same marks t true false in_marks, apart))
          (cases_lt k place);
      from_is = get_or_append_left trail (t ∷ []) 0 done s.more ∙ s.from_is;
      more = omega arith;
    }

-- a target that was reached before
pub target_old : (graph : List (List ℕ)) (start : ℕ) (items : List ℕ) (from : ℕ) (marks : List Bool) (trail : List ℕ) (done place : ℕ) →
    IsGoing graph start items from marks trail done place →
    (get_or items place 0 ≡ start → ⊥) → IsReached marks (get_or items place 0) →
    IsGoing graph start items from marks trail done (place + 1)
target_old graph start items from marks trail done place s apart old = record {
  searched = s.searched;
  front = λ k l. ⊎_elim
      (λ low. s.front k low)
      (λ high.
      let same : k ≡ place = omega arith in
      subst (λ x. IsReached marks (get_or items x 0) × (get_or items x 0 ≡ start → ⊥)) (sym same) (old, apart))
      (cases_lt k place);
  from_is = s.from_is;
  more = s.more;
}
