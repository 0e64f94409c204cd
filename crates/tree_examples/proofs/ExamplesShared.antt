-- The shared tree of `E::A(X::P) | E::B(Y::R) => 1, _ => 2`: four subtrees are two nodes, numbered as a walk from the last
-- case to the first finishes them, the last one first.
use Rattle.std.proofs.Common.{◌≡◌, inl, inr, [], ◌∷◌, refl}
use Rattle.match_model.specs.Places.{FieldStep}
use Rattle.match_model.specs.Trees.{VariantCase, ElseCase, SwitchNode, TakeNode}
use Rattle.match_model.specs.DecisionTrees.{MTree, SwitchTree, TakeTree, no_branch, more_branches}
use Rattle.match_model.specs.Lists.{Among}
use Rattle.match_model.specs.SharedTrees.{Walks, known, to_take, to_switch, nothing, last_first, IsShared, switch_of, take_of}

abbrev first : MTree
first = TakeTree 0 []

abbrev second : MTree
second = TakeTree 1 []

abbrev inner_x : MTree
inner_x =
    SwitchTree (FieldStep 0 0 ∷ []) (more_branches (VariantCase 0) first (more_branches ElseCase second no_branch))

abbrev inner_y : MTree
inner_y =
    SwitchTree (FieldStep 1 0 ∷ []) (more_branches (VariantCase 0) first (more_branches ElseCase second no_branch))

abbrev whole : MTree
whole = SwitchTree [] (more_branches (VariantCase 0) inner_x (more_branches (VariantCase 1) inner_y no_branch))

nothing_there : (t : MTree) → ¬ Among t []
nothing_there t a = a

apart_takes : ¬ Among first (second ∷ [])
apart_takes (inl e) = no e
  where
    no : first ≡ second → ⊥
    no e = cc
apart_takes (inr a) = a

y_new : ¬ Among inner_y []
y_new a = a

x_new : ¬ Among inner_x (inner_y ∷ first ∷ second ∷ [])
x_new (inl e) = no e
  where
    no : inner_x ≡ inner_y → ⊥
    no e = cc
x_new (inr (inl e)) = no e
  where
    no : inner_x ≡ first → ⊥
    no e = cc
x_new (inr (inr (inl e))) = no e
  where
    no : inner_x ≡ second → ⊥
    no e = cc
x_new (inr (inr (inr a))) = a

pub walk : Walks [] whole (whole ∷ inner_x ∷ inner_y ∷ first ∷ second ∷ [])
walk =
    to_switch [] _ [] _ (λ a. a)
    (last_first [] _ _ (VariantCase 0) inner_x _
    (last_first [] _ _ (VariantCase 1) inner_y no_branch (nothing [])
    (to_switch [] _ _ _ y_new (last_first [] _ _ (VariantCase 0) first _
    (last_first [] _ _ ElseCase second no_branch (nothing []) (to_take [] 1 [] (nothing_there second)))
    (to_take (second ∷ []) 0 [] apart_takes))))
    (to_switch (inner_y ∷ first ∷ second ∷ []) _ _ _ x_new
    (last_first _ _ _ (VariantCase 0) first _ (last_first _ _ _ ElseCase second no_branch (nothing _)
    (known _ second (inr (inr (inl refl))))) (known _ first (inr (inl refl))))))

pub nodes : IsShared whole
    (SwitchNode [] (record { case = VariantCase 0; next = 1 } ∷ record { case = VariantCase 1; next = 2 } ∷ [])
    ∷ SwitchNode (FieldStep 0 0 ∷ [])
    (record { case = VariantCase 0; next = 3 } ∷ record { case = ElseCase; next = 4 } ∷ [])
    ∷ SwitchNode (FieldStep 1 0 ∷ [])
    (record { case = VariantCase 0; next = 3 } ∷ record { case = ElseCase; next = 4 } ∷ [])
    ∷ TakeNode 0 [] ∷ TakeNode 1 [] ∷ [])
nodes = record {
  trees = whole ∷ inner_x ∷ inner_y ∷ first ∷ second ∷ [];
  walk = walk;
  are = (
    switch_of [] _ _ ((refl, refl), ((refl, refl), tt)),
    (
      switch_of (FieldStep 0 0 ∷ []) _ _ ((refl, refl), ((refl, refl), tt)),
      (switch_of (FieldStep 1 0 ∷ []) _ _ ((refl, refl), ((refl, refl), tt)), (take_of 0 [], (take_of 1 [], tt))),
    ),
  );
}
