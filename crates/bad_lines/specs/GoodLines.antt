-- Which lines are good at a place, and what is wrong with the others.
use Rattle.std.specs.Prelude.{ℕ, ◌+◌, ◌-◌, ◌*◌, Bool, true, false, not, ◌&&◌, ◌||◌, ◌==◌, nat_lt, nat_le, is_some, List, [], ◌∷◌, length, Option, Some, None, if◌then◌else◌, codes}
use Rattle.vector_memory.specs.declared.edition.Edition.TheVariants.{One, Two}
use Rattle.cvl_text.specs.Words.{same_text, words_of}
use Rattle.cvl_text.specs.Lines.{task_in}
use Rattle.bad_lines.specs.declared.place.Place.{Place}
use Rattle.bad_lines.specs.declared.place.Place.TheVariants.{First, Outside, Inside}
use Rattle.bad_lines.specs.declared.reason.Why.{Why}
use Rattle.bad_lines.specs.declared.reason.Why.TheVariants.{TooLong, NoCaller, NoHead, OtherCaller, NoWord, NoBlocks, BlockInBlock, NoBlock, BehindBrace, EmptyBlock, FullBlock}
use Rattle.bad_lines.specs.Wrongs.{Wrong, wrong, wrong_in, first_of}

-- the greatest number of bytes of a line
abbrev pub line_limit : ℕ
line_limit = 1048576

-- the greatest number of calls of a block
abbrev pub block_limit : ℕ
block_limit = 1024

abbrev pub is_digit : ℕ → Bool
is_digit b = nat_le 48 b && nat_le b 57

-- the caller that a line's first word names
abbrev pub caller_named : List ℕ → Option ℕ
caller_named (d ∷ e ∷ []) = if is_digit d && e == 58 then Some (d - 48) else None
caller_named (d ∷ e ∷ f ∷ []) =
    if (is_digit d && is_digit e) && ((f == 58 && not (d == 48)) && nat_lt (10 * (d - 48) + (e - 48)) 64)
    then Some (10 * (d - 48) + (e - 48)) else None
caller_named word = None

abbrev pub is_comment : List ℕ → Bool
is_comment [] = false
is_comment (b ∷ bs) = b == 35

-- the words are this one
abbrev pub is_alone : List ℕ → List (List ℕ) → Bool
is_alone word [] = false
is_alone word (w ∷ []) = same_text w word
is_alone word (w ∷ v ∷ ws) = false

-- the head of a script of edition 2, in its first line
abbrev pub is_head_at : Place → List ℕ → Bool
is_head_at First line = same_text line (codes "cvl 2")
is_head_at (Outside edition) line = false
is_head_at (Inside own calls) line = false

-- the words behind the caller's are a call, or the brace that may stand there
abbrev pub is_good_ask : Place → ℕ → List (List ℕ) → Bool
is_good_ask First caller ws = is_some (task_in One ws)
is_good_ask (Outside One) caller ws = is_some (task_in One ws)
is_good_ask (Outside Two) caller ws = is_alone (codes "{") ws || is_some (task_in Two ws)
is_good_ask (Inside own calls) caller ws =
    (caller == own) && (if is_alone (codes "}") ws then not (calls == 0) else (nat_lt calls block_limit && is_some (task_in Two ws)))

abbrev pub is_good_by : Place → Option ℕ → List (List ℕ) → Bool
is_good_by place None ws = false
is_good_by place (Some caller) ws = is_good_ask place caller ws

-- nothing, a comment, or a caller's words
abbrev pub are_good : Place → List (List ℕ) → Bool
are_good place [] = true
are_good place (w ∷ ws) = is_comment w || is_good_by place (caller_named w) ws

unfoldable pub is_good_line : Place → List ℕ → Bool
is_good_line place line = is_head_at place line || (nat_le (length line) line_limit && are_good place (words_of line))

-- what is wrong with a `{` or a `}` where a call has to stand
abbrev pub opening_at : Place → Why
opening_at First = NoBlocks
opening_at (Outside One) = NoBlocks
opening_at (Outside Two) = BehindBrace
opening_at (Inside own calls) = BlockInBlock

abbrev pub closing_at : Place → Why
closing_at First = NoBlocks
closing_at (Outside One) = NoBlocks
closing_at (Outside Two) = NoBlock
closing_at (Inside own calls) = BehindBrace

-- what is wrong with a word that is no call word
abbrev pub no_word_at : Place → List ℕ → Why
no_word_at place w = if same_text w (codes "{") then opening_at place else (if same_text w (codes "}") then closing_at place else NoWord)

abbrev pub why_at : Place → Why → List ℕ → Why
why_at place NoWord w = no_word_at place w
why_at place why w = why

-- what is wrong with a call, by the place of its line
abbrev pub told_at : Place → Option Wrong → Option Wrong
told_at place None = None
told_at place (Some found) = Some (record found { why = why_at place found.why (first_of found.words) })

-- a call that is good is one too many where the block has as many as it may have
abbrev pub or_full : ℕ → List (List ℕ) → Option Wrong → Option Wrong
or_full calls ws (Some found) = Some found
or_full calls ws None = if nat_lt calls block_limit then None else wrong FullBlock [] ws

-- what is wrong with the words behind the caller's, in a block of the caller that has so many calls
abbrev pub wrong_inside : ℕ → ℕ → List (List ℕ) → Option Wrong
wrong_inside own calls ws =
    if is_alone (codes "}") ws then (if calls == 0 then wrong EmptyBlock [] ws else None)
    else or_full calls ws (told_at (Inside own calls) (wrong_in Two ws))

-- what is wrong with the words ws behind the caller's, of all the words of a line
unfoldable pub wrong_ask : Place → ℕ → List (List ℕ) → List (List ℕ) → Option Wrong
wrong_ask First caller all ws = told_at First (wrong_in One ws)
wrong_ask (Outside One) caller all ws = told_at (Outside One) (wrong_in One ws)
wrong_ask (Outside Two) caller all ws = if is_alone (codes "{") ws then None else told_at (Outside Two) (wrong_in Two ws)
wrong_ask (Inside own calls) caller all ws = if caller == own then wrong_inside own calls ws else wrong (OtherCaller own) [] all

-- a first word that names no caller
abbrev pub no_caller : List ℕ → Why
no_caller w = if same_text w (codes "cvl") then NoHead else NoCaller

abbrev pub wrong_by : Place → Option ℕ → List ℕ → List (List ℕ) → Option Wrong
wrong_by place None w ws = wrong (no_caller w) [] (w ∷ ws)
wrong_by place (Some caller) w ws = wrong_ask place caller (w ∷ ws) ws

abbrev pub wrong_words : Place → List (List ℕ) → Option Wrong
wrong_words place [] = None
wrong_words place (w ∷ ws) = if is_comment w then None else wrong_by place (caller_named w) w ws

unfoldable pub wrong_line : Place → List ℕ → Option Wrong
wrong_line place line =
    if is_head_at place line then None
    else (if nat_le (length line) line_limit then wrong_words place (words_of line) else wrong TooLong [] [])
