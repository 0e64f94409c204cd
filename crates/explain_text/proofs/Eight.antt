-- A text to which eight pieces were added.
use Rattle.std.proofs.Common.{◌≡◌, List, ◌++◌, ℕ}
use Rattle.explain_lines.proofs.Adding.{two_added, seven_added}

pub eight_added : (x0 x1 x2 x3 x4 x5 x6 x7 x8 p q r s t u v w : List ℕ) → x1 ≡ x0 ++ p → x2 ≡ x1 ++ q → x3 ≡ x2 ++ r → x4 ≡ x3 ++ s → x5 ≡ x4 ++ t →
    x6 ≡ x5 ++ u → x7 ≡ x6 ++ v → x8 ≡ x7 ++ w → x8 ≡ x0 ++ (p ++ (q ++ (r ++ (s ++ (t ++ (u ++ (v ++ w)))))))
eight_added x0 x1 x2 x3 x4 x5 x6 x7 x8 p q r s t u v w e f g h i j k l =
    two_added x0 x1 x8 p (q ++ (r ++ (s ++ (t ++ (u ++ (v ++ w)))))) e (seven_added x1 x2 x3 x4 x5 x6 x7 x8 q r s t u v w f g h i j k l)
