-- What a text has once several pieces were added to it, one after the other.
use Rattle.std.proofs.Common.{◌≡◌, ◌∙◌, ap, List, ◌++◌, ℕ, append_assoc}

pub two_added : (x0 x1 x2 p q : List ℕ) → x1 ≡ x0 ++ p → x2 ≡ x1 ++ q → x2 ≡ x0 ++ (p ++ q)
two_added x0 x1 x2 p q e f = f ∙ ap (λ z. z ++ q) e ∙ append_assoc x0 p q

pub three_added : (x0 x1 x2 x3 p q r : List ℕ) → x1 ≡ x0 ++ p → x2 ≡ x1 ++ q → x3 ≡ x2 ++ r → x3 ≡ x0 ++ (p ++ (q ++ r))
three_added x0 x1 x2 x3 p q r e f g = two_added x0 x1 x3 p (q ++ r) e (two_added x1 x2 x3 q r f g)

pub four_added : (x0 x1 x2 x3 x4 p q r s : List ℕ) → x1 ≡ x0 ++ p → x2 ≡ x1 ++ q → x3 ≡ x2 ++ r → x4 ≡ x3 ++ s → x4 ≡ x0 ++ (p ++ (q ++ (r ++ s)))
four_added x0 x1 x2 x3 x4 p q r s e f g h = two_added x0 x1 x4 p (q ++ (r ++ s)) e (three_added x1 x2 x3 x4 q r s f g h)

pub five_added : (x0 x1 x2 x3 x4 x5 p q r s t : List ℕ) → x1 ≡ x0 ++ p → x2 ≡ x1 ++ q → x3 ≡ x2 ++ r → x4 ≡ x3 ++ s → x5 ≡ x4 ++ t →
    x5 ≡ x0 ++ (p ++ (q ++ (r ++ (s ++ t))))
five_added x0 x1 x2 x3 x4 x5 p q r s t e f g h i = two_added x0 x1 x5 p (q ++ (r ++ (s ++ t))) e (four_added x1 x2 x3 x4 x5 q r s t f g h i)

pub six_added : (x0 x1 x2 x3 x4 x5 x6 p q r s t u : List ℕ) → x1 ≡ x0 ++ p → x2 ≡ x1 ++ q → x3 ≡ x2 ++ r → x4 ≡ x3 ++ s → x5 ≡ x4 ++ t → x6 ≡ x5 ++ u →
    x6 ≡ x0 ++ (p ++ (q ++ (r ++ (s ++ (t ++ u)))))
six_added x0 x1 x2 x3 x4 x5 x6 p q r s t u e f g h i j = two_added x0 x1 x6 p (q ++ (r ++ (s ++ (t ++ u)))) e (five_added x1 x2 x3 x4 x5 x6 q r s t u f g h i j)

pub seven_added : (x0 x1 x2 x3 x4 x5 x6 x7 p q r s t u v : List ℕ) → x1 ≡ x0 ++ p → x2 ≡ x1 ++ q → x3 ≡ x2 ++ r → x4 ≡ x3 ++ s → x5 ≡ x4 ++ t → x6 ≡ x5 ++ u → x7 ≡ x6 ++ v →
    x7 ≡ x0 ++ (p ++ (q ++ (r ++ (s ++ (t ++ (u ++ v))))))
seven_added x0 x1 x2 x3 x4 x5 x6 x7 p q r s t u v e f g h i j k =
    two_added x0 x1 x7 p (q ++ (r ++ (s ++ (t ++ (u ++ v))))) e (six_added x1 x2 x3 x4 x5 x6 x7 q r s t u v f g h i j k)
