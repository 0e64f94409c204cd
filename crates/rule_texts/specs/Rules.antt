-- What it means that a rule is broken (docs/rules.md).
use Rattle.std.specs.Prelude.{ℕ, List, [], ◌∷◌, Option, Some, None, codes, if◌then◌else◌}
use Rattle.std.specs.Bool.{nat_eq}
use Rattle.rule_texts.specs.declared.phrases.Phrase.{Phrase}
use Rattle.rule_texts.specs.declared.phrases.Phrase.TheVariants as phrases

-- words as they stand, or words before and behind the name of what stands at the place
pub data PhraseTree : Type 0 where
  IsPlain : List ℕ → PhraseTree
  IsNamed : (front : List ℕ) → (back : List ℕ) → PhraseTree

abbrev pub phrase_view : Phrase → PhraseTree
phrase_view (phrases.Plain words) = IsPlain words.now
phrase_view (phrases.Named front back) = IsNamed front.now back.now

-- a rule's number, and words on it
pub record Rule : Type 0 where
  pub number : ℕ
  pub phrase : PhraseTree

abbrev plain : ℕ → List ℕ → Rule
plain number words = record { number = number; phrase = IsPlain words }

abbrev named : ℕ → List ℕ → List ℕ → Rule
named number front back = record { number = number; phrase = IsNamed front back }

-- what is reported where a rule is broken, in rustc's words where it has them
abbrev pub titles : List Rule
titles =
    plain 1 (codes "the file is not UTF-8")
    ∷ plain 2 (codes "unknown start of token")
    ∷ plain 3 (codes "unterminated block comment")
    ∷ plain 4 (codes "unterminated text literal")
    ∷ plain 5 (codes "unknown escape")
    ∷ plain 6 (codes "expected an item")
    ∷ plain 7 (codes "the file is too long")
    ∷ plain 9 (codes "too many members in one list")
    ∷ named 10 (codes "the name ") (codes " is defined multiple times")
    ∷ plain 11 (codes "a variant is defined multiple times")
    ∷ plain 12 (codes "a field is already declared")
    ∷ plain 13 (codes "cannot find a type in this scope")
    ∷ plain 14 (codes "the size of a type cannot be known at compilation time")
    ∷ named 15 (codes "recursive type ") (codes " has infinite size")
    ∷ plain 16 (codes "invalid array length")
    ∷ plain 17 (codes "wrong number of generic arguments")
    ∷ named 18 (codes "unresolved import ") (codes "")
    ∷ plain 19 (codes "unsupported attribute")
    ∷ named 20 (codes "cannot find ") (codes " in this scope")
    ∷ plain 21 (codes "match bindings cannot shadow structs or variants")
    ∷ plain 22 (codes "mismatched types")
    ∷ plain 23 (codes "wrong number of parts")
    ∷ plain 24 (codes "no such field")
    ∷ plain 25 (codes "field bound multiple times in the pattern")
    ∷ plain 26 (codes "pattern does not mention all fields")
    ∷ plain 27 (codes "`..` can only be used once per list of patterns")
    ∷ plain 28 (codes "literal out of range for its type")
    ∷ plain 29 (codes "empty range pattern")
    ∷ named 30 (codes "identifier ") (codes " is bound more than once in the same pattern")
    ∷ plain 31 (codes "variable is not bound in all alternatives")
    ∷ plain 32 (codes "cannot write a binding mode within an implicitly-borrowing pattern")
    ∷ plain 33 (codes "open range in a slice pattern")
    ∷ plain 34 (codes "type cannot be dereferenced")
    ∷ plain 35 (codes "unsupported pattern")
    ∷ named 36 (codes "recursive type ") (codes " has no finite value")
    ∷ plain 40 (codes "invalid value")
    ∷ plain 41 (codes "mismatched value")
    ∷ plain 42 (codes "unknown function")
    ∷ plain 50 (codes "an arm to add is too large")
    ∷ []

-- what is wrong at the place where a rule is broken
abbrev pub labels : List Rule
labels =
    plain 1 (codes "no character of UTF-8 begins with this byte")
    ∷ plain 2 (codes "no token begins here")
    ∷ plain 3 (codes "this comment is not closed")
    ∷ plain 4 (codes "this text is not closed")
    ∷ plain 5 (codes "no escape begins with this backslash")
    ∷ plain 6 (codes "no `enum`, `struct`, `use` or `fn` of the grammar begins here, or it is deeper than 64 levels")
    ∷ plain 7 (codes "the file has more than 16777216 bytes")
    ∷ plain 9 (codes "this item has a list of more than 256 fields, parts or items")
    ∷ named 10 (codes "") (codes " is taken, as a type or as a value")
    ∷ named 11 (codes "two variants of ") (codes " have one name")
    ∷ named 12 (codes "two fields of one form of ") (codes " have one name")
    ∷ named 13 (codes "") (codes " names a type that is not declared")
    ∷ named 14 (codes "") (codes " has `str` or `[T]` where a size is needed")
    ∷ named 15 (codes "") (codes " has itself by value")
    ∷ named 16 (codes "an array length of ") (codes " is above 4294967295, or has another suffix than `usize`")
    ∷ named 17 (codes "") (codes " has a type with a wrong number of arguments")
    ∷ named 18 (codes "") (codes " is no enum, or it has no such variant")
    ∷ named 19 (codes "the checker does not support an attribute of ") (codes "")
    ∷ plain 20 (codes "this path finds nothing, or its name is found twice")
    ∷ named 21 (codes "") (codes " finds a struct or variant that needs more than its name")
    ∷ plain 22 (codes "this pattern does not fit the type of the value")
    ∷ plain 23 (codes "this pattern has another number of parts than the value")
    ∷ plain 24 (codes "this pattern names a field that the form does not have")
    ∷ plain 25 (codes "this pattern names a field twice")
    ∷ plain 26 (codes "a field is missing, and there is no `..`")
    ∷ plain 27 (codes "this list has a second `..`")
    ∷ plain 28 (codes "this number is none of the type's")
    ∷ plain 29 (codes "no number is in this range")
    ∷ named 30 (codes "") (codes " is bound twice")
    ∷ plain 31 (codes "the alternatives bind other names, types or modes")
    ∷ plain 32 (codes "`ref`, `mut`, `&` and `&mut` are not allowed here")
    ∷ plain 33 (codes "this range needs parentheses")
    ∷ plain 34 (codes "the type of the scrutinee is no reference")
    ∷ plain 35 (codes "the checker does not support this literal, suffix or path in a pattern")
    ∷ named 36 (codes "") (codes " has no finite value, even behind references")
    ∷ plain 40 (codes "the value is not written as a value")
    ∷ plain 41 (codes "the value is none of the function's type")
    ∷ plain 42 (codes "the file has no function of this name")
    ∷ plain 50 (codes "an arm to add has more than 64 levels, or more than 256 parts in a list")
    ∷ []

-- what can be done where a rule is broken
abbrev pub helps : List Rule
helps =
    plain 6 (codes "a file holds enums, structs, imports of variants, and functions of one parameter whose body is one `match` on it")
    ∷ plain 13 (codes "declare the type in this file: the checker reads no other file")
    ∷ plain 14 (codes "put it behind a reference")
    ∷ plain 15 (codes "insert some indirection, such as `&`, to break the cycle")
    ∷ plain 18 (codes "an import is `use E::*;` or `use E::{A, B};` for an enum `E` of this file")
    ∷ named 21 (codes "write the parts of ") (codes " behind it, or give the binding another name")
    ∷ plain 26 (codes "name the other fields, or write `..` to ignore them")
    ∷ plain 31 (codes "bind the same names in each alternative, with the same types and modes")
    ∷ plain 32 (codes "remove it, or match the reference itself with `&`")
    ∷ plain 33 (codes "write parentheses around it, as in `[(1..), _]`")
    ∷ plain 34 (codes "match on the scrutinee without `*`")
    ∷ plain 35 (codes "patterns have no floats, byte texts, constants or paths of more than two names here")
    ∷ []

-- the words of the first rule of that number
abbrev pub phrase_in : List Rule → ℕ → Option PhraseTree
phrase_in [] number = None
phrase_in (r ∷ others) number = if nat_eq number r.number then Some r.phrase else phrase_in others number

-- what is reported where the rule of that number is broken
abbrev pub title_of : ℕ → Option PhraseTree
title_of number = phrase_in titles number

-- what is wrong at the place where the rule of that number is broken
abbrev pub label_of : ℕ → Option PhraseTree
label_of number = phrase_in labels number

-- what can be done where the rule of that number is broken
abbrev pub help_of : ℕ → Option PhraseTree
help_of number = phrase_in helps number
