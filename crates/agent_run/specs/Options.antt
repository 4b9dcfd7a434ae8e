-- The options that words give: each has a name and a value, as `--name value` or as `--name=value`.
use Rattle.std.specs.Prelude.{ℕ, ◌==◌, nat_lt, Bool, false, true, not, ◌&&◌, if◌then◌else◌, List, [], ◌∷◌, length, drop, find, Option, Some, None, option_map, option_and_then, bytes_eq}
use Rattle.std.specs.List.{list_all, list_any, before_first, after_first}

abbrev pub Text : Type 0
Text = List ℕ

-- an option as it was given: its name and its value
abbrev pub Given : Type 0
Given = Text × Text

-- the word begins with `-`
abbrev pub is_dashed : Text → Bool
is_dashed [] = false
is_dashed (byte ∷ rest) = byte == 45

-- the word is `--` and something behind it
abbrev pub is_option : Text → Bool
is_option word = is_dashed word && (is_dashed (drop 1 word) && nat_lt 2 (length word))

abbrev pub is_equals : ℕ → Bool
is_equals byte = byte == 61

-- the option's name stands between `--` and the first `=`, and behind that `=` its value
abbrev pub name_in : Text → Text
name_in word = before_first is_equals (drop 2 word)

abbrev pub has_value : Text → Bool
has_value word = list_any is_equals (drop 2 word)

abbrev pub value_in : Text → Text
value_in word = after_first is_equals (drop 2 word)

abbrev pub with_option : Given → Option (List Given) → Option (List Given)
with_option option more = option_map (λ rest. option ∷ rest) more

-- the options that the words give, in their order; after `--name` alone the next word is its value, which doesn't begin
-- with `-`
abbrev pub options_from : Option Text → List Text → Option (List Given)
options_from None [] = Some []
options_from (Some name) [] = None
options_from None (word ∷ rest) =
    if not (is_option word) then None
    else if has_value word then with_option (name_in word, value_in word) (options_from None rest)
    else options_from (Some (name_in word)) rest
options_from (Some name) (word ∷ rest) =
    if is_dashed word then None else with_option (name, word) (options_from None rest)

-- the option was given under this name
abbrev pub is_named : Text → Given → Bool
is_named name option = bytes_eq option.0 name

abbrev pub has_option : Text → List Given → Bool
has_option name given = list_any (is_named name) given

-- no option was given twice
abbrev pub none_twice : List Given → Bool
none_twice [] = true
none_twice (option ∷ rest) =
    not (list_any (λ later. bytes_eq option.0 later.0) rest) && none_twice rest

abbrev pub is_known : List Text → Given → Bool
is_known names option = list_any (λ name. bytes_eq name option.0) names

-- the options given are those of these names, each once
abbrev pub each_once : List Text → List Given → Bool
each_once names given =
    list_all (is_known names) given && (none_twice given && list_all (λ name. has_option name given) names)

-- the value that was given for the option of a name
abbrev pub value_of : List Given → Text → Option Text
value_of given name = option_map (λ option. option.1) (find (is_named name) given)

-- the values of a command's options by their names, where the words give each of them once and nothing else
abbrev pub values_of : List Text → List Text → Option (Text → Option Text)
values_of names words =
    option_and_then (λ given. if each_once names given then Some (value_of given) else None) (options_from None words)
