-- The laws of the definition.
use Rattle.std.specs.Prelude.{◌≡◌, ℕ, ◌≤◌, List, length, ◌⊎◌, ◌↔◌, Some}
use Rattle.decl_lexer.specs.Gaps.{comment_end, IsInside}
use Rattle.decl_lexer.specs.Lexing.{Placed, HasTokens, HasFault, AreInOrder}

-- no bytes have two lists of tokens
abbrev pub OneTokenList : Type 0
OneTokenList = (bytes : List ℕ) (tokens others : List Placed) → HasTokens bytes tokens → HasTokens bytes others → tokens ≡ others

-- no bytes have two first faults
abbrev pub OneFault : Type 0
OneFault = (bytes : List ℕ) (rule place other elsewhere : ℕ) → HasFault bytes rule place → HasFault bytes other elsewhere → (rule ≡ other) × (place ≡ elsewhere)

-- no bytes have tokens and a fault
abbrev pub NeverBoth : Type 0
NeverBoth = (bytes : List ℕ) (tokens : List Placed) (rule place : ℕ) → HasTokens bytes tokens → HasFault bytes rule place → ⊥

-- all bytes have tokens or a fault
abbrev pub OneOfThem : Type 0
OneOfThem = (bytes : List ℕ) → ((tokens : List Placed) × HasTokens bytes tokens) ⊎ ((rule : ℕ) × (place : ℕ) × HasFault bytes rule place)

-- tokens stand in order within the bytes
abbrev pub TokensInOrder : Type 0
TokensInOrder = (bytes : List ℕ) (tokens : List Placed) → HasTokens bytes tokens → AreInOrder 0 (length bytes) tokens

-- a fault is of one of the rules 1 to 5, and stands within the bytes
abbrev pub FaultsAreKnown : Type 0
FaultsAreKnown = (bytes : List ℕ) (rule place : ℕ) → HasFault bytes rule place → (1 ≤ rule) × (rule ≤ 5) × (place ≤ length bytes)

-- a block comment ends at its own `*/`: comments nest
abbrev pub CommentsNest : Type 0
CommentsNest = (cs rest : List ℕ) → (comment_end 0 cs ≡ Some rest) ↔ IsInside cs rest
