-- The values of `--frames` and `--rounds` that a parse keeps are numbers within their bounds.
use Rattle.std.proofs.Common.{◌≡◌, ◌∙◌, ◌<◌, ◌≤◌, ℕ, Bool, ◌&&◌, cond, true, false, zero, suc, List, [], ◌∷◌, ◌++◌, Option, Some, None, IfSome, refl, sym, ap, subst, codes, arith, drop}
use Rattle.std.specs.List.{list_all}
use Rattle.std.specs.Prelude.{⊤, is_some, ◌^◌, encode_utf8, find, fold, length, nat_lt, option_and_then, option_map, pos, slice_get}
use Rattle.std.specs.Option.{option_map_or}
use Rattle.std.specs.Str.{bytes_eq, chars}
use Rattle.std.specs.Str.Parse.{IsNumeral, ParsesUnsigned, digits_value, without_leading_plus}
use Rattle.std.proofs.lemmas.Bool.{lt-ltb, ltb-true, false≢true}
use Rattle.std.proofs.lemmas.Slice.Eq.{bytes_eq-Decides}
use Rattle.clap.specs.Facts.{parser_of_value}
use Rattle.clap.specs.Faults.{action_fault, bundle_fault, bundle_step_fault, flags_fault, flag_word_fault, level_fault, long_fault, option_fault, other_fault, positional_fault, react_fault, settle_fault, short_fault, step_fault, stray_fault, turn_fault, use_fault, values_fault, walk_fault, word_fault}
use Rattle.clap.specs.Kinds.{Kinds, or_else, values_kinds}
use Rattle.clap.specs.Lexer.{long_of, short_of, without_minus}
use Rattle.clap.specs.Matches.{ReadsOne}
use Rattle.clap.specs.ValueTests.{accepts, is_numeral}
use Rattle.clap.specs.Values.{read_as, refused_kind}
use Rattle.clap.specs.Walk.{Held, Names, Outcome, Row, Rule, Step, Text, Waiting, Walk, after_flag, action_of, after_step, arg_by_id, arg_by_index, arg_by_long, arg_by_short, at_row, attached_value, bundle, bundle_met, bundle_step, default_rows, done, flag_met, has_row, idle, is_pending, long_met, long_or_other, more_values, next, nothing_held, one_of, option, option_met, option_word, plain, plain_word, positional, positional_held, reacted, reading_by, refused, row_text, rows_after, settled, settled_rows, short_met, short_or_plain, subcommand, subcommand_met, subcommand_or_other, takes_several, takes_values, to_positional, trailing, used, used_by_id, value, values_or_missing, waits, walk, walk_from, walked, walked_from, with_default, with_values, without, word_met}
use Rattle.clap.specs.Simple.{Shape}
use Rattle.clap.specs.declared.builder.value_parser.Reading.{Reading}
use Rattle.clap.specs.declared.builder.value_parser.Reading.TheVariants as reading
use Rattle.clap.specs.declared.builder.value_parser.ValueParser.{ValueParser}
use Rattle.clap.specs.declared.builder.value_parser.ValueParser.TheVariants as parser
use Rattle.clap.specs.declared.error.kind.ErrorKind.TheVariants.{DisplayHelp, TooManyValues}
use Rattle.clap.specs.declared.parser.matches.ValueSource.{ValueSource}
use Rattle.clap.specs.declared.parser.matches.ValueSource.TheVariants.{CommandLine, DefaultValue}
use Rattle.clap.specs.declared.builder.action.ArgAction.{ArgAction}
use Rattle.clap.specs.declared.builder.action.ArgAction.TheVariants.{Help, Set, SetTrue}
use Rattle.clap.proofs.CallerReads.{signed_reads}
use Rattle.clap.proofs.ValueTestLemmas.{accepts-Accepts}
use Rattle.clap.proofs.WalkLemmas.{both}
use Rattle.command_answers.specs.Options.{number_named}
use Rattle.command_answers.proofs.OptionLemmas.{digits_are, digits_pass}
use Rattle.tower_cli.proofs.JobLemmas.{first_none, second_none}

-- ---- A value

-- the parser of a number within bounds
abbrev pub within : ℕ → ℕ → ValueParser
within low high = parser.Signed (pos low) (pos high)

abbrev are_accepted : ValueParser → List Text → Bool
are_accepted p values = list_all (accepts false p) values

abbrev is_named : Text → Bool
is_named text = is_numeral (without_leading_plus text) && nat_lt (digits_value 10 (without_leading_plus text)) (2 ^ 32)

named : (text : Text) → IsNumeral 10 (without_leading_plus text) × (digits_value 10 (without_leading_plus text) < 2 ^ 32) → is_named text ≡ true
named text are = rw (lt-ltb 0 (length (without_leading_plus text)) are.0.0, digits_pass (without_leading_plus text) are.0.1, lt-ltb (digits_value 10 (without_leading_plus text)) (2 ^ 32) are.1) refl

named_as_read : (text : Text) → ReadsOne {E = Unit {0}} (λ u r. ParsesUnsigned 32 10 u r) text (number_named text)
named_as_read text = go (is_named text) refl
  where
    go : (b : Bool) → is_named text ≡ b → ReadsOne {E = Unit {0}} (λ u r. ParsesUnsigned 32 10 u r) text (cond b (Some (digits_value 10 (without_leading_plus text))) None)
    go true is =
        let outer = both _ _ is in
        let inner = both _ _ outer.0 in
        (((ltb-true _ _ inner.0, digits_are (without_leading_plus text) inner.1), ltb-true _ _ outer.1), refl)
    go false is = (tt, λ p. false≢true (sym is ∙ named text p))

-- a text names a number within bounds
abbrev pub IsNumeralIn : ℕ → ℕ → Text → Type 0
IsNumeralIn low high text = (n : ℕ) × (number_named text ≡ Some n) × (low ≤ n) × (n ≤ high)

-- a value that passed its parser is read as a number
accepted_is_named : (low high : ℕ) → high < 2 ^ 32 → (v : Text) → accepts false (within low high) v ≡ true → IsNumeralIn low high (without_minus v)
accepted_is_named low high fits v passes =
    signed_reads (Unit {0}) (λ u r. ParsesUnsigned 32 10 u r) 32 low high v (number_named (without_minus v)) (named_as_read (without_minus v)) (λ u x gives. gives) fits (accepts-Accepts false (within low high) v passes)

-- ---- Rows

abbrev RowStands : Text → ValueParser → Row → Type 0
RowStands id p row = bytes_eq row.id id ≡ true → (row.reading ≡ reading.WithoutMinus) × (are_accepted p row.values ≡ true)

abbrev pub of_frames : ValueParser
of_frames = within 0 4294967295

abbrev pub of_rounds : ValueParser
of_rounds = within 1 1000

abbrev GoodRow : Row → Type 0
GoodRow row = RowStands (codes "frames") of_frames row × RowStands (codes "rounds") of_rounds row

abbrev Good : List Row → Type 0
Good [] = ⊤
Good (row ∷ rows) = GoodRow row × Good rows

good_both : (rows more : List Row) → Good rows → Good more → Good (rows ++ more)
good_both [] more good goods = goods
good_both (row ∷ rows) more good goods = (good.0, good_both rows more good.1 goods)

good_at : (id : Text) (change : Row → List Row) (missing rows : List Row) → ((row : Row) → bytes_eq row.id id ≡ true → GoodRow row → Good (change row)) → Good missing → Good rows → Good (at_row id change missing rows)
good_at id change missing [] changes misses good = misses
good_at id change missing (row ∷ rows) changes misses good = go (bytes_eq row.id id) refl (good_at id change missing rows changes misses good.1)
  where
    go : (b : Bool) → bytes_eq row.id id ≡ b → Good (at_row id change missing rows) → Good (cond b (change row ++ rows) (row ∷ at_row id change missing rows))
    go true is later = good_both (change row) rows (changes row is good.0) good.1
    go false is later = (good.0, later)

good_without : (id : Text) (rows : List Row) → Good rows → Good (without id rows)
good_without id rows good = good_at id (λ _. []) [] rows (λ _ _ _. tt) tt good

both_accepted : (p : ValueParser) (values more : List Text) → are_accepted p values ≡ true → are_accepted p more ≡ true → are_accepted p (values ++ more) ≡ true
both_accepted p [] more are all = all
both_accepted p (v ∷ values) more are all =
    let parts = both (accepts false p v) (are_accepted p values) are in
    ap (λ b. b && are_accepted p (values ++ more)) parts.0 ∙ both_accepted p values more parts.1 all

-- an option's name is not another one's
not_both : {A : Type 0} (id one other : Text) → bytes_eq one other ≡ false → bytes_eq id one ≡ true → bytes_eq id other ≡ true → A
not_both id one other differ is too = absurd (false≢true (sym differ ∙ ap (λ t. bytes_eq t other) (sym ((bytes_eq-Decides id one).0 is)) ∙ too))

good_frames : (source : ValueSource) (values : List Text) (rows : List Row) → are_accepted of_frames values ≡ true → Good rows → Good (with_values (codes "frames") reading.WithoutMinus source values rows)
good_frames source values rows are good =
    good_at (codes "frames") (more_values source values) _ rows
    (λ row is own. ((λ named. ((own.0 named).0, both_accepted of_frames row.values values (own.0 named).1 are), λ named. not_both row.id (codes "frames") (codes "rounds") refl is named), tt))
    ((λ named. (refl, are), λ named. absurd (false≢true named)), tt) good

good_rounds : (source : ValueSource) (values : List Text) (rows : List Row) → are_accepted of_rounds values ≡ true → Good rows → Good (with_values (codes "rounds") reading.WithoutMinus source values rows)
good_rounds source values rows are good =
    good_at (codes "rounds") (more_values source values) _ rows
    (λ row is own. ((λ named. not_both row.id (codes "rounds") (codes "frames") refl is named, λ named. ((own.1 named).0, both_accepted of_rounds row.values values (own.1 named).1 are)), tt))
    ((λ named. absurd (false≢true named), λ named. (refl, are)), tt) good

-- values of an argument that is neither
good_other : (id : Text) (how : Reading) (source : ValueSource) (values : List Text) (rows : List Row) → bytes_eq id (codes "frames") ≡ false → bytes_eq id (codes "rounds") ≡ false → Good rows → Good (with_values id how source values rows)
good_other id how source values rows apart too good =
    good_at id (more_values source values) _ rows
    (λ row is own. ((λ named. not_both row.id id (codes "frames") apart is named, λ named. not_both row.id id (codes "rounds") too is named), tt))
    ((λ named. absurd (false≢true (sym apart ∙ named)), λ named. absurd (false≢true (sym too ∙ named))), tt) good

-- ---- A use of an argument

values_passed : (low high : ℕ) (values : List Text) → values_kinds false (within low high) values ≡ [] → are_accepted (within low high) values ≡ true
values_passed low high [] none = refl
values_passed low high (v ∷ values) none = go (accepts false (within low high) v) refl (first_none _ _ none) (values_passed low high values (second_none _ _ none))
  where
    go : (b : Bool) → accepts false (within low high) v ≡ b → cond b [] (refused_kind (within low high) ∷ []) ≡ [] → are_accepted (within low high) values ≡ true → are_accepted (within low high) (v ∷ values) ≡ true
    go true is passes rest = ap (λ a. a && are_accepted (within low high) values) is ∙ rest
    go false is passes rest = cc

-- a use of the argument without a fault keeps rows good
abbrev pub UsesWell : Bool → Rule → Type 0
UsesWell again a = (values : List Text) (rows : List Row) → use_fault again a values rows ≡ [] → Good rows → Good (used a values rows)

abbrev pub AllUseWell : Bool → List Rule → Type 0
AllUseWell again [] = ⊤
AllUseWell again (a ∷ rules) = UsesWell again a × AllUseWell again rules

found_well : (again : Bool) (p : Rule → Bool) (rules : List Rule) → AllUseWell again rules → IfSome (find p rules) (UsesWell again)
found_well again p [] all = tt
found_well again p (a ∷ rules) all = go (p a) (found_well again p rules all.1)
  where
    go : (b : Bool) → IfSome (find p rules) (UsesWell again) → IfSome (cond b (Some a) (find p rules)) (UsesWell again)
    go true later = all.0
    go false later = later

-- ---- A word of the walk

module _ (c : List Rule) (again : Bool) (all : AllUseWell again c) where
  used_well : (found : Option Rule) → IfSome found (UsesWell again) → (values : List Text) (rows : List Row) → option_map_or (λ a. use_fault again a values rows) found [] ≡ [] → Good rows → Good (used_by_id found values rows)
  used_well None well values rows none good = good
  used_well (Some a) well values rows none good = well values rows none good

  settled_well : (h : Held) → settle_fault c again h ≡ [] → Good h.rows → Good (settled c h).rows
  settled_well h none good = go h.pending none
    where
      go : (pending : Option (Text × List Text)) → option_map_or (λ p. option_map_or (λ a. use_fault again a p.1 h.rows) (arg_by_id c p.0) []) pending [] ≡ [] → Good (settled_rows c pending h.rows)
      go None fault = good
      go (Some p) fault = used_well (arg_by_id c p.0) (found_well again _ c all) p.1 h.rows fault good

  reacted_well : (a : Rule) → UsesWell again a → (values : List Text) (h : Held) → react_fault c again a values h ≡ [] → Good h.rows → Good (reacted c a values h).rows
  reacted_well a well values h none good = well values (settled c h).rows (second_none _ _ none) (settled_well h (first_none _ _ none) good)

  option_well : (a : Rule) → UsesWell again a → (v : Option Text) (h : Held) → option_fault c again a v h ≡ [] → Good h.rows → Good (option_met c a v h).0.rows
  option_well a well (Some v) h none good = reacted_well a well (v ∷ []) h none good
  option_well a well None h none good = settled_well h none good

  flag_well : (a : Rule) → UsesWell again a → (v : Option Text) (h : Held) → react_fault c again a [] h ≡ [] → Good h.rows → Good (flag_met c a v h).0.rows
  flag_well a well (Some v) h none good = good
  flag_well a well None h none good = reacted_well a well [] h none good

  long_well : (found : Option Rule) → IfSome found (UsesWell again) → (v : Option Text) (h : Held) → long_fault c again found v h ≡ [] → Good h.rows → Good (long_met c found v h).0.rows
  long_well None well v h none good = good
  long_well (Some a) well v h none good = go (takes_values a) v none
    where
      go : (b : Bool) (o : Option Text) → cond b (option_fault c again a o h) (cond (is_some o) (TooManyValues ∷ []) (react_fault c again a [] h)) ≡ [] → Good (cond b (option_met c a o h) (flag_met c a o h)).0.rows
      go true o fault = option_well a well o h fault good
      go false None fault = flag_well a well None h fault good
      go false (Some text) fault = good

  short_well : (found : Option Rule) → IfSome found (UsesWell again) → (rest : Text) (h : Held) (go_on : Held → Held × Outcome) (faults : Held → Kinds) → ((k : Held) → faults k ≡ [] → Good k.rows → Good (go_on k).0.rows)
      → short_fault c again found rest h faults ≡ [] → Good h.rows → Good (short_met c found rest h go_on).0.rows
  short_well None well rest h go_on faults next_well none good = good
  short_well (Some a) well rest h go_on faults next_well none good = go (takes_values a) none
    where
      go : (b : Bool) → cond b (option_fault c again a (attached_value rest) h) (or_else (react_fault c again a [] h) (faults (reacted c a [] h))) ≡ [] → Good (cond b (option_met c a (attached_value rest) h) (go_on (reacted c a [] h))).0.rows
      go true fault = option_well a well (attached_value rest) h fault good
      go false fault = next_well (reacted c a [] h) (second_none _ _ fault) (reacted_well a well [] h (first_none _ _ fault) good)

  flags_well : (k : ℕ) (flags : Text) (skip : ℕ) (so_far : Outcome) (h : Held) → flags_fault c again k flags skip h ≡ [] → Good h.rows → Good (bundle_met c k flags skip so_far h).0.rows
  unfolding bundle_met flags_fault
  flags_well zero flags skip so_far h none good = good
  flags_well (suc k) flags skip so_far h none good = go (slice_get (chars flags) 0) skip none (flags_well k)
    where
      go : (x : Option ℕ) (passed : ℕ) → bundle_step_fault c again x flags passed h (flags_fault c again k) ≡ []
          → ((fs : Text) (s : ℕ) (o : Outcome) (g : Held) → flags_fault c again k fs s g ≡ [] → Good g.rows → Good (bundle_met c k fs s o g).0.rows)
          → Good (bundle_step c x flags passed so_far h (bundle_met c k)).0.rows
      go None passed fault rest = good
      go (Some x) zero fault rest = short_well (arg_by_short c x) (found_well again _ c all) (drop (length (encode_utf8 x)) flags) h _ _ (λ g. rest (drop (length (encode_utf8 x)) flags) 0 done g) fault good
      go (Some x) (suc passed) fault rest = rest (drop (length (encode_utf8 x)) flags) passed so_far h fault good

  plain_well : (waiting : Waiting) (word : Text) (h : Held) → Good h.rows → Good (plain_word c waiting word h).0.rows
  plain_well idle word h good = good
  plain_well positional word h good = good
  plain_well (option id) word h good = go (arg_by_id c id)
    where
      go : (found : Option Rule) → Good (option_word found id word h).0.rows
      go None = good
      go (Some a) = good

  after_well : (waiting : Waiting) (word : Text) (h : Held) (o : Outcome) → Good h.rows → Good (after_flag c waiting word h o).0.rows
  after_well waiting word h done good = good
  after_well waiting word h (waits id) good = good
  after_well waiting word h plain good = plain_well waiting word h good
  after_well waiting word h refused good = plain_well waiting word h good

  short_word_well : (waiting : Waiting) (word : Text) (flags : Option Text) (h : Held) → option_map_or (λ fs. bundle_fault c again fs h) flags [] ≡ [] → Good h.rows → Good (short_or_plain c waiting word flags h).0.rows
  short_word_well waiting word None h none good = plain_well waiting word h good
  short_word_well waiting word (Some flags) h none good = after_well waiting word (bundle c flags h).0 (bundle c flags h).1 (flags_well (length flags) flags h.skip plain (record h { skip = 0 }) none good)

  flag_word_well : (waiting : Waiting) (word : Text) (long : Option (Text × Option Text)) (h : Held) → flag_word_fault c again long word h ≡ [] → Good h.rows → Good (long_or_other c waiting word long h).0.rows
  flag_word_well waiting word None h none good = short_word_well waiting word (short_of word) h none good
  flag_word_well waiting word (Some p) h none good = after_well waiting word (long_met c (arg_by_long c p.0) p.1 h).0 _ (long_well (arg_by_long c p.0) (found_well again _ c all) p.1 h none good)

-- ---- The walk over the words

module _ (s : Shape) (names : Names) (all : AllUseWell s.args_override_self s.rules) where
  dashes_well : (waiting : Waiting) (position : ℕ) (word : Text) (h : Held) (b : Bool) → cond b [] (flag_word_fault s.rules s.args_override_self (long_of word) word h) ≡ [] → Good h.rows
      → Good (cond b (h, trailing position) (long_or_other s.rules waiting word (long_of word) h)).0.rows
  dashes_well waiting position word h true none good = good
  dashes_well waiting position word h false none good = flag_word_well s.rules s.args_override_self all waiting word (long_of word) h none good

  word_well : (is_trailing : Bool) (waiting : Waiting) (position : ℕ) (word : Text) (h : Held) → word_fault s names is_trailing waiting word h ≡ [] → Good h.rows → Good (word_met s.rules names is_trailing waiting position word h).0.rows
  word_well true waiting position word h none good = good
  word_well false waiting position word h none good = go (subcommand_met names waiting word) none
    where
      go : (met : Option Text) → other_fault s met word h ≡ [] → Good (subcommand_or_other s.rules met waiting position word h).0.rows
      go (Some name) fault = good
      go None fault = dashes_well waiting position word h (bytes_eq word (45 ∷ 45 ∷ [])) fault good

  positional_well : (a : Rule) (word : Text) (h : Held) → positional_fault s.rules s.args_override_self a h ≡ [] → Good h.rows → Good (positional_held s.rules a word h).rows
  positional_well a word h none good = go (is_pending a h.pending && takes_several a) none
    where
      go : (b : Bool) → cond b [] (settle_fault s.rules s.args_override_self h) ≡ [] → Good (cond b h (settled s.rules h)).rows
      go true fault = good
      go false fault = settled_well s.rules s.args_override_self all h fault good

  to_positional_well : (found : Option Rule) (word : Text) (w : Walk) (h : Held) → option_map_or (λ a. positional_fault s.rules s.args_override_self a h) found (stray_fault s) ≡ [] → Good h.rows → Good (to_positional s.rules found word w h).held.rows
  to_positional_well None word w h none good = good
  to_positional_well (Some a) word w h none good = positional_well a word h none good

  step_well : (word : Text) (w : Walk) (h : Held) (step : Step) → step_fault s w.position h step ≡ [] → Good h.rows → Good (after_step s.rules word w h step).held.rows
  step_well word w h (next waiting) none good = good
  step_well word w h (trailing position) none good = good
  step_well word w h (subcommand name) none good = good
  step_well word w h value none good = to_positional_well (arg_by_index s.rules w.position) word w h none good

  turn_well : (w : Walk) (word : Text) → turn_fault s names w word ≡ [] → Good w.held.rows → Good (walked s.rules names w word).held.rows
  unfolding walked
  turn_well w word none good = go w.stopped none
    where
      go : (o : Option (Text × List Text)) → turn_fault s names (record w { stopped = o }) word ≡ [] → Good (walked_from s.rules names o w word).held.rows
      go (Some p) fault = good
      go None fault =
          let met = word_met s.rules names w.is_trailing w.waiting w.position word w.held in
          step_well word w met.0 met.1 (second_none _ _ fault) (word_well w.is_trailing w.waiting w.position word w.held (first_none _ _ fault) good)

  walk_well : (w : Walk) (words : List Text) → walk_fault s names w words ≡ [] → Good w.held.rows → Good (fold (walked s.rules names) w words).held.rows
  unfolding walk_fault
  walk_well w [] none good = good
  walk_well w (word ∷ words) none good = walk_well (walked s.rules names w word) words (second_none _ _ none) (turn_well w word (first_none _ _ none) good)

-- ---- After the walk

-- an argument that was not used keeps rows good
abbrev pub EndsWell : Rule → Type 0
EndsWell a = (rows : List Row) → Good rows → Good (with_default rows a)

abbrev pub AllEndWell : List Rule → Type 0
AllEndWell [] = ⊤
AllEndWell (a ∷ rules) = EndsWell a × AllEndWell rules

-- one without a default value
bare_well : (a : Rule) → a.defaults ≡ [] → EndsWell a
bare_well a bare rows good = go (has_row a.id rows)
  where
    go : (b : Bool) → Good (cond b rows (default_rows a.id (reading_by a) a.defaults rows))
    go true = good
    go false = rw bare good

defaults_well : (rules : List Rule) (rows : List Row) → AllEndWell rules → Good rows → Good (fold with_default rows rules)
defaults_well [] rows all good = good
defaults_well (a ∷ rules) rows all good = defaults_well rules (with_default rows a) all.1 (all.0 rows good)

-- a level of the parse without a fault
level_well : (s : Shape) (words : List Text) → AllUseWell s.args_override_self s.rules → AllEndWell s.rules → level_fault s [] nothing_held words false [] ≡ [] → Good (rows_after s.rules [] words)
level_well s words all ends none =
    let walked_good = walk_well s [] all (walk_from nothing_held) words (first_none _ _ none) tt in
    let end = (walk s.rules [] nothing_held words).held in
    let rest : or_else (settle_fault s.rules s.args_override_self end) _ ≡ [] = second_none _ _ none in
    defaults_well s.rules (settled s.rules end).rows ends (settled_well s.rules s.args_override_self all end (first_none _ _ rest) walked_good)

-- ---- What is read of the rows

abbrev pub IsNumbered : ℕ → ℕ → Option Text → Type 0
IsNumbered low high text = IfSome text (IsNumeralIn low high)

row_named : (low high : ℕ) → high < 2 ^ 32 → (row : Row) → row.reading ≡ reading.WithoutMinus → are_accepted (within low high) row.values ≡ true → IsNumbered low high (row_text row)
row_named low high fits row read are = rw read (go row.values are)
  where
    go : (values : List Text) → are_accepted (within low high) values ≡ true → IsNumbered low high (option_map (read_as reading.WithoutMinus) (slice_get values 0))
    go [] passes = tt
    go (v ∷ values) passes = accepted_is_named low high fits v (both (accepts false (within low high) v) (are_accepted (within low high) values) passes).0

frames_named : (rows : List Row) → Good rows → IsNumbered 0 4294967295 (one_of (codes "frames") rows)
frames_named [] good = tt
frames_named (row ∷ rows) good = go (bytes_eq row.id (codes "frames")) refl (frames_named rows good.1)
  where
    go : (b : Bool) → bytes_eq row.id (codes "frames") ≡ b → IsNumbered 0 4294967295 (one_of (codes "frames") rows) → IsNumbered 0 4294967295 (option_and_then row_text (cond b (Some row) (find (λ r. bytes_eq r.id (codes "frames")) rows)))
    go true is later = row_named 0 4294967295 (omega arith) row (good.0.0 is).0 (good.0.0 is).1
    go false is later = later

rounds_named : (rows : List Row) → Good rows → IsNumbered 1 1000 (one_of (codes "rounds") rows)
rounds_named [] good = tt
rounds_named (row ∷ rows) good = go (bytes_eq row.id (codes "rounds")) refl (rounds_named rows good.1)
  where
    go : (b : Bool) → bytes_eq row.id (codes "rounds") ≡ b → IsNumbered 1 1000 (one_of (codes "rounds") rows) → IsNumbered 1 1000 (option_and_then row_text (cond b (Some row) (find (λ r. bytes_eq r.id (codes "rounds")) rows)))
    go true is later = row_named 1 1000 (omega arith) row (good.0.1 is).0 (good.0.1 is).1
    go false is later = later

-- ---- The rules of the options

-- an option of this name, of numbers within these bounds
pub record IsOption (id : Text) (low high : ℕ) (a : Rule) : Type 0 where
  pub id_is : a.id ≡ id
  pub action : action_of a ≡ Set
  pub parses : parser_of_value a.parser ≡ within low high
  pub case : a.ignore_case ≡ false
  pub bare : a.defaults ≡ []

option_passes : (id : Text) (low high : ℕ) (again : Bool) (a : Rule) → IsOption id low high a → (values : List Text) (rows : List Row) → use_fault again a values rows ≡ [] → are_accepted (within low high) (values_or_missing a values) ≡ true
option_passes id low high again a is values rows none =
    let all = values_or_missing a values in
    let uses : action_fault (action_of a) again a all rows ≡ [] = second_none _ _ none in
    let sets : action_fault Set again a all rows ≡ [] = subst (λ (act : ArgAction). action_fault act again a all rows ≡ []) is.action uses in
    let passes : values_fault a all ≡ [] = second_none _ _ sets in
    let same_case : values_kinds false (parser_of_value a.parser) all ≡ [] = subst (λ (i : Bool). values_kinds i (parser_of_value a.parser) all ≡ []) is.case passes in
    values_passed low high all (subst (λ (p : ValueParser). values_kinds false p all ≡ []) is.parses same_case)

frames_well : (again : Bool) (a : Rule) → IsOption (codes "frames") 0 4294967295 a → UsesWell again a
frames_well again a is values rows none good =
    let passed = option_passes (codes "frames") 0 4294967295 again a is values rows none in
    rw (is.action, is.id_is, is.parses) (good_frames CommandLine (values_or_missing a values) (without (codes "frames") rows) passed (good_without (codes "frames") rows good))

rounds_well : (again : Bool) (a : Rule) → IsOption (codes "rounds") 1 1000 a → UsesWell again a
rounds_well again a is values rows none good =
    let passed = option_passes (codes "rounds") 1 1000 again a is values rows none in
    rw (is.action, is.id_is, is.parses) (good_rounds CommandLine (values_or_missing a values) (without (codes "rounds") rows) passed (good_without (codes "rounds") rows good))

no_request : {A : Type 0} → DisplayHelp ∷ [] ≡ [] → A
no_request {A} none = absurd (no_kind none) where
  no_kind : DisplayHelp ∷ [] ≡ [] → ⊥
  no_kind e = cc

help_well : (again : Bool) (a : Rule) → action_of a ≡ Help → UsesWell again a
help_well again a action values rows none good =
    let uses : action_fault (action_of a) again a (values_or_missing a values) rows ≡ [] = second_none _ _ none in
    no_request (subst (λ (act : ArgAction). action_fault act again a (values_or_missing a values) rows ≡ []) action uses)

-- a call for help
pub record IsHelp (a : Rule) : Type 0 where
  pub action : action_of a ≡ Help
  pub bare : a.defaults ≡ []

-- a flag of another name
pub record IsFlag (a : Rule) : Type 0 where
  pub action : action_of a ≡ SetTrue
  pub apart : bytes_eq a.id (codes "frames") ≡ false
  pub too : bytes_eq a.id (codes "rounds") ≡ false

other_flag_well : (again : Bool) (a : Rule) → IsFlag a → UsesWell again a
other_flag_well again a is values rows none good =
    rw is.action (good_other a.id (reading_by a) CommandLine (values_or_missing a values) (without a.id rows) is.apart is.too (good_without a.id rows good))

other_flag_ends_well : (a : Rule) → IsFlag a → EndsWell a
other_flag_ends_well a is rows good = go (has_row a.id rows) a.defaults
  where
    go : (b : Bool) (values : List Text) → Good (cond b rows (default_rows a.id (reading_by a) values rows))
    go true values = good
    go false [] = good
    go false (v ∷ values) = good_other a.id (reading_by a) DefaultValue (v ∷ values) rows is.apart is.too good

-- a subcommand whose arguments are `--frames` and a call for help
pub run_is_named : (s : Shape) (frames help : Rule) → s.rules ≡ frames ∷ help ∷ [] → IsOption (codes "frames") 0 4294967295 frames → IsHelp help
    → (words : List Text) → level_fault s [] nothing_held words false [] ≡ [] → IsNumbered 0 4294967295 (one_of (codes "frames") (rows_after s.rules [] words))
run_is_named s frames help rules is asks words none =
    let all : AllUseWell s.args_override_self (frames ∷ help ∷ []) = (frames_well _ frames is, (help_well _ help asks.action, tt)) in
    let ends : AllEndWell (frames ∷ help ∷ []) = (bare_well frames is.bare, (bare_well help asks.bare, tt)) in
    frames_named _ (level_well s words (subst (AllUseWell s.args_override_self) (sym rules) all) (subst AllEndWell (sym rules) ends) none)

-- one whose arguments are `--frames`, a flag and a call for help
pub image_is_named : (s : Shape) (frames flag help : Rule) → s.rules ≡ frames ∷ flag ∷ help ∷ [] → IsOption (codes "frames") 0 4294967295 frames → IsFlag flag → IsHelp help
    → (words : List Text) → level_fault s [] nothing_held words false [] ≡ [] → IsNumbered 0 4294967295 (one_of (codes "frames") (rows_after s.rules [] words))
image_is_named s frames flag help rules is flags asks words none =
    let all : AllUseWell s.args_override_self (frames ∷ flag ∷ help ∷ []) = (frames_well _ frames is, (other_flag_well _ flag flags, (help_well _ help asks.action, tt))) in
    let ends : AllEndWell (frames ∷ flag ∷ help ∷ []) = (bare_well frames is.bare, (other_flag_ends_well flag flags, (bare_well help asks.bare, tt))) in
    frames_named _ (level_well s words (subst (AllUseWell s.args_override_self) (sym rules) all) (subst AllEndWell (sym rules) ends) none)

abbrev pub RaceNumbered : List Row → Type 0
RaceNumbered rows = IsNumbered 0 4294967295 (one_of (codes "frames") rows) × IsNumbered 1 1000 (one_of (codes "rounds") rows)

-- a subcommand whose arguments are `--frames`, `--rounds` and a call for help
pub race_is_named : (s : Shape) (frames rounds help : Rule) → s.rules ≡ frames ∷ rounds ∷ help ∷ [] → IsOption (codes "frames") 0 4294967295 frames → IsOption (codes "rounds") 1 1000 rounds → IsHelp help
    → (words : List Text) → level_fault s [] nothing_held words false [] ≡ [] → RaceNumbered (rows_after s.rules [] words)
race_is_named s frames rounds help rules is too asks words none =
    let all : AllUseWell s.args_override_self (frames ∷ rounds ∷ help ∷ []) = (frames_well _ frames is, (rounds_well _ rounds too, (help_well _ help asks.action, tt))) in
    let ends : AllEndWell (frames ∷ rounds ∷ help ∷ []) = (bare_well frames is.bare, (bare_well rounds too.bare, (bare_well help asks.bare, tt))) in
    let good = level_well s words (subst (AllUseWell s.args_override_self) (sym rules) all) (subst AllEndWell (sym rules) ends) none in
    (frames_named _ good, rounds_named _ good)
