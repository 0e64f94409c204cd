-- Identifiers (the Rust Reference, "Identifiers"; Unicode Standard Annex 31).
use Rattle.std.specs.Prelude.{◌≡◌, ℕ, Bool, true, false, ◌||◌, ◌==◌, List, [], ◌∷◌}
use Rattle.std.specs.List.{list_all}
use Rattle.unicode_ident.specs.Ident.{is_xid_start, is_xid_continue}

-- an identifier begins with an XID_Start character or `_`
abbrev pub begins_identifier : ℕ → Bool
begins_identifier c = is_xid_start c || c == 95

-- whether there is a first character and it begins an identifier
abbrev pub is_begun : List ℕ → Bool
is_begun [] = false
is_begun (c ∷ cs) = begins_identifier c

-- XID_Continue characters follow
pub record IsIdentifier (cs : List ℕ) : Type 0 where
  pub begun : is_begun cs ≡ true
  pub continued : list_all is_xid_continue cs ≡ true
