-- No meaning: a reading from left to right, which laws join to the grammar. What types and patterns share.
use Rattle.std.specs.Prelude.{◌≡◌, ℕ, zero, suc, List, [], ◌∷◌, length, Option, Some, None, Result, Ok, Err, option_and_then}
use Rattle.decl_lexer.specs.declared.marks.Mark.{Mark}
use Rattle.decl_lexer.specs.declared.marks.Mark.TheVariants as marks
use Rattle.decl_lexer.specs.Lexing.{Placed}
use Rattle.decl_syntax.specs.declared.stop.Stop.{Stop}
use Rattle.decl_syntax.specs.declared.stop.Stop.TheVariants as stops
use Rattle.decl_syntax.specs.Units.{behind, is_mark}

infixl 10 ◌>>=◌
-- what follows a step that gave something
abbrev pub ◌>>=◌ : {A B : Type 0} → Option A → (A → Option B) → Option B
o >>= f = option_and_then f o

-- what follows a step that gave something, or else another reading
abbrev pub either : {A B : Type 0} → Option A → (A → Option B) → Option B → Option B
either (Some x) f other = f x
either None f other = other

-- what was read, and the tokens behind it
abbrev pub Read : Type 0 → Type 0
Read A = Option (A × List Placed)

-- memory ran out, or nothing is read
abbrev pub Fails : {Y : Type 0} → Stop → Option Y → Type 0
Fails stops.Memory read = Unit {0}
Fails stops.Syntax read = read ≡ None

-- what a function returned is what reading gives, unless memory ran out
abbrev pub Gives : {X Y : Type 0} → (X → Y) → Result X Stop → Option Y → Type 0
Gives view (Ok x) read = read ≡ Some (view x)
Gives view (Err e) read = Fails e read

-- one item of a list, and what is read behind it
abbrev pub list_step : {A : Type 0} → Mark → (List Placed → Read A) → (List Placed → Read (List A)) → List Placed → Read (List A)
list_step close read others ts =
    either (behind (is_mark close) ts) (λ rest. Some ([], rest))
    (read ts >>= λ x. either (behind (is_mark close) x.1) (λ rest. Some (x.0 ∷ [], rest))
    (behind (is_mark marks.Comma) x.1 >>= λ us. others us >>= λ xs. Some (x.0 ∷ xs.0, xs.1)))

-- at most so many steps
abbrev pub comma_list : {A : Type 0} → Mark → (List Placed → Read A) → ℕ → List Placed → Read (List A)
comma_list close read zero ts = None
comma_list close read (suc fuel) ts = list_step close read (comma_list close read fuel) ts

-- items up to the mark that closes the list
unfoldable pub list_at : {A : Type 0} → Mark → (List Placed → Read A) → List Placed → Read (List A)
list_at close read ts = comma_list close read (suc (length ts)) ts

-- one item between marks, and what is read behind it
abbrev pub part_step : {A : Type 0} → Mark → (List Placed → Read A) → (List Placed → Read (List A)) → List Placed → Read (List A)
part_step mark read others ts =
    read ts >>= λ x. either (behind (is_mark mark) x.1) (λ us. others us >>= λ xs. Some (x.0 ∷ xs.0, xs.1)) (Some (x.0 ∷ [], x.1))

-- at most so many steps
abbrev pub part_list : {A : Type 0} → Mark → (List Placed → Read A) → ℕ → List Placed → Read (List A)
part_list mark read zero ts = None
part_list mark read (suc fuel) ts = part_step mark read (part_list mark read fuel) ts

-- items with the mark between them
unfoldable pub parts_at : {A : Type 0} → Mark → (List Placed → Read A) → List Placed → Read (List A)
parts_at mark read ts = part_list mark read (suc (length ts)) ts

-- one item that begins with a mark, and what is read behind it
abbrev pub many_step : {A : Type 0} → Mark → (List Placed → Read A) → (List Placed → Read (List A)) → List Placed → Read (List A)
many_step mark read others ts =
    either (behind (is_mark mark) ts) (λ us. read ts >>= λ x. others x.1 >>= λ xs. Some (x.0 ∷ xs.0, xs.1)) (Some ([], ts))

-- at most so many steps
abbrev pub many_list : {A : Type 0} → Mark → (List Placed → Read A) → ℕ → List Placed → Read (List A)
many_list mark read zero ts = None
many_list mark read (suc fuel) ts = many_step mark read (many_list mark read fuel) ts

-- items one after the other, as long as the mark comes next
unfoldable pub many_at : {A : Type 0} → Mark → (List Placed → Read A) → List Placed → Read (List A)
many_at mark read ts = many_list mark read (suc (length ts)) ts
