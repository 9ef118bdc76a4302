-- Which subcommand a command line enters, and that it has a job.
use Rattle.std.proofs.Common.{◌≡◌, ◌∙◌, ◌≤◌, ◌⊎◌, inl, inr, arith, ℕ, Bool, ◌||◌, cond, not, true, false, List, [], ◌∷◌, Option, Some, None, IfSome, refl, sym, subst, codes}
use Rattle.std.specs.Box.{box_value}
use Rattle.std.specs.Option.{option_map_or}
use Rattle.std.specs.Prelude.{⊤, Box, IsSome, find, fold, option_map}
use Rattle.std.proofs.lemmas.Bool.{le-leb}
use Rattle.std.specs.Str.{bytes_eq}
use Rattle.std.proofs.lemmas.Slice.Eq.{bytes_eq-Decides}
use Rattle.clap.specs.Faults.{entered_fault, fault_of, level_fault, other_fault, turn_fault, walk_fault, word_fault}
use Rattle.clap.specs.Lexer.{long_of, short_of}
use Rattle.clap.specs.Matches.{subcommand_name_of}
use Rattle.clap.specs.Simple.{App, Shape, argument_words, built, built_leaf, entered, filled, help_rule, help_shape, inherited, label_of, marked_built, names_of, on_top, rows_at, subcommand_of, subcommand_rows, subcommand_rows_of, with_index, with_leaf_noted}
use Rattle.clap.specs.Walk.{Held, Names, Outcome, Row, Rule, Step, Text, Waiting, Walk, after_flag, after_step, answers_to, arg_by_index, arg_by_long, bundle, done, idle, long_met, long_or_other, next, nothing_held, one_of, option, plain, plain_word, positional, refused, rows_after, short_or_plain, subcommand, subcommand_met, subcommand_or_other, to_positional, trailing, value, waits, walk_from, walked, walked_from, word_met}
use Rattle.clap.specs.declared.parser.matches.ArgMatches.{ArgMatches}
use Rattle.clap.specs.declared.parser.matches.ArgMatches.TheViews.{out-ArgMatches, out-SubCommand}
use Rattle.clap.specs.declared.parser.matches.SubCommand.{SubCommand}
use Rattle.clap.proofs.OnLiterals.{clap_on_literals}
use Rattle.command_answers.specs.Options.{frames_option, number_named}
use Rattle.tower_cli.specs.Jobs.{tower_app, run_app, race_app, image_app, check_app, resume_app, rounds_option, whole_flag, job_named}
use Rattle.tower_cli.proofs.JobLemmas.{first_none, second_none}
use Rattle.tower_cli.proofs.ValueLemmas.{IsFlag, IsHelp, IsNumbered, IsOption, RaceNumbered, image_is_named, run_is_named, race_is_named}

-- ---- `help` is never entered

abbrev is_not_help : Text → Bool
is_not_help name = not (bytes_eq name (codes "help"))

-- a step that enters a subcommand does not enter `help`
abbrev EntersNoHelp : Step → Type 0
EntersNoHelp (next waiting) = ⊤
EntersNoHelp (trailing position) = ⊤
EntersNoHelp (subcommand name) = is_not_help name ≡ true
EntersNoHelp value = ⊤

-- the walk did not stop at `help`
abbrev StopsNotAtHelp : Option (Text × List Text) → Type 0
StopsNotAtHelp None = ⊤
StopsNotAtHelp (Some p) = is_not_help p.0 ≡ true

plain_enters : (c : List Rule) (waiting : Waiting) (word : Text) (h : Held) → EntersNoHelp (plain_word c waiting word h).1
plain_enters c idle word h = tt
plain_enters c (option id) word h = tt
plain_enters c positional word h = tt

flag_enters : (c : List Rule) (waiting : Waiting) (word : Text) (h : Held) (o : Outcome) → EntersNoHelp (after_flag c waiting word h o).1
flag_enters c waiting word h done = tt
flag_enters c waiting word h (waits id) = tt
flag_enters c waiting word h plain = plain_enters c waiting word h
flag_enters c waiting word h refused = plain_enters c waiting word h

short_enters : (c : List Rule) (waiting : Waiting) (word : Text) (flags : Option Text) (h : Held) → EntersNoHelp (short_or_plain c waiting word flags h).1
short_enters c waiting word None h = plain_enters c waiting word h
short_enters c waiting word (Some flags) h = flag_enters c waiting word (bundle c flags h).0 (bundle c flags h).1

other_enters : (c : List Rule) (waiting : Waiting) (word : Text) (long : Option (Text × Option Text)) (h : Held) → EntersNoHelp (long_or_other c waiting word long h).1
other_enters c waiting word None h = short_enters c waiting word (short_of word) h
other_enters c waiting word (Some p) h = flag_enters c waiting word (long_met c (arg_by_long c p.0) p.1 h).0 (long_met c (arg_by_long c p.0) p.1 h).1

named_enters : (s : Shape) (name word : Text) (h : Held) → s.disable_help_subcommand ≡ false → other_fault s (Some name) word h ≡ [] → is_not_help name ≡ true
named_enters s name word h on none = go (bytes_eq name (codes "help")) refl
  where
    go : (b : Bool) → bytes_eq name (codes "help") ≡ b → not b ≡ true
    go false is = refl
    go true is =
        let bad = rw (is, on) at none in
        cc

dashes_enter : (c : List Rule) (waiting : Waiting) (position : ℕ) (word : Text) (h : Held) (b : Bool) → EntersNoHelp (cond b (h, trailing position) (long_or_other c waiting word (long_of word) h)).1
dashes_enter c waiting position word h true = tt
dashes_enter c waiting position word h false = other_enters c waiting word (long_of word) h

word_enters : (s : Shape) (names : Names) (is_trailing : Bool) (waiting : Waiting) (position : ℕ) (word : Text) (h : Held) → s.disable_help_subcommand ≡ false
    → word_fault s names is_trailing waiting word h ≡ [] → EntersNoHelp (word_met s.rules names is_trailing waiting position word h).1
word_enters s names true waiting position word h on none = tt
word_enters s names false waiting position word h on none = go (subcommand_met names waiting word) none
  where
    go : (met : Option Text) → other_fault s met word h ≡ [] → EntersNoHelp (subcommand_or_other s.rules met waiting position word h).1
    go (Some name) fault = named_enters s name word h on fault
    go None fault = dashes_enter s.rules waiting position word h (bytes_eq word (45 ∷ 45 ∷ []))

positional_stops : (c : List Rule) (found : Option Rule) (word : Text) (w : Walk) (h : Held) → w.stopped ≡ None → StopsNotAtHelp (to_positional c found word w h).stopped
positional_stops c None word w h fresh = rw fresh tt
positional_stops c (Some a) word w h fresh = tt

step_stops : (c : List Rule) (word : Text) (w : Walk) (h : Held) (step : Step) → w.stopped ≡ None → EntersNoHelp step → StopsNotAtHelp (after_step c word w h step).stopped
step_stops c word w h (next waiting) fresh enters = rw fresh tt
step_stops c word w h (trailing position) fresh enters = rw fresh tt
step_stops c word w h (subcommand name) fresh enters = enters
step_stops c word w h value fresh enters = positional_stops c (arg_by_index c w.position) word w h fresh

turn_stops : (s : Shape) (names : Names) (w : Walk) (word : Text) → s.disable_help_subcommand ≡ false → turn_fault s names w word ≡ [] → StopsNotAtHelp w.stopped
    → StopsNotAtHelp (walked s.rules names w word).stopped
unfolding walked
turn_stops s names w word on none before = go w.stopped refl none before
  where
    go : (o : Option (Text × List Text)) → w.stopped ≡ o → turn_fault s names (record w { stopped = o }) word ≡ [] → StopsNotAtHelp o → StopsNotAtHelp (walked_from s.rules names o w word).stopped
    go (Some p) is fault stops = stops
    go None is fault stops =
        let met = word_met s.rules names w.is_trailing w.waiting w.position word w.held in
        step_stops s.rules word w met.0 met.1 is (word_enters s names w.is_trailing w.waiting w.position word w.held on (first_none _ _ fault))

walk_stops : (s : Shape) (names : Names) (w : Walk) (words : List Text) → s.disable_help_subcommand ≡ false → walk_fault s names w words ≡ [] → StopsNotAtHelp w.stopped
    → StopsNotAtHelp (fold (walked s.rules names) w words).stopped
unfolding walk_fault
walk_stops s names w [] on none before = before
walk_stops s names w (word ∷ words) on none before =
    walk_stops s names (walked s.rules names w word) words on (second_none _ _ none) (turn_stops s names w word on (first_none _ _ none) before)

-- ---- The program's subcommands

same_either_way : (a b : Text) → bytes_eq a b ≡ true → bytes_eq b a ≡ true
same_either_way a b same = (bytes_eq-Decides b a).1 (sym ((bytes_eq-Decides a b).0 same))

abbrev IsRun : Text × List Row → Type 0
IsRun p = (p.0 ≡ codes "run") × IsNumbered 0 4294967295 (one_of (codes "frames") p.1)

abbrev IsRace : Text × List Row → Type 0
IsRace p = (p.0 ≡ codes "race") × RaceNumbered p.1

abbrev IsImage : Text × List Row → Type 0
IsImage p = (p.0 ≡ codes "image") × IsNumbered 0 4294967295 (one_of (codes "frames") p.1)

abbrev IsCheck : Text × List Row → Type 0
IsCheck p = p.0 ≡ codes "check"

abbrev IsResume : Text × List Row → Type 0
IsResume p = p.0 ≡ codes "resume"

-- the subcommand is one of five, and each option's text names a number within its bounds
abbrev IsKnown : Option (Text × List Row) → Type 0
IsKnown found = IfSome found (λ p. (IsRun p ⊎ IsRace p) ⊎ (IsImage p ⊎ (IsCheck p ⊎ IsResume p)))

or_false : (b : Bool) → (b || false) ≡ true → b ≡ true
or_false true is = refl
or_false false is = is

abbrev NoFault : Shape → List Text → Type 0
NoFault s words = level_fault s [] nothing_held words false [] ≡ []

-- The program's subcommands, as they are built, of which the last is `help`.
record AreCommands (run race image check resume help : Shape) : Type 0 where
  pub run_name : run.name ≡ codes "run"
  pub race_name : race.name ≡ codes "race"
  pub image_name : image.name ≡ codes "image"
  pub check_name : check.name ≡ codes "check"
  pub resume_name : resume.name ≡ codes "resume"
  pub help_name : help.name ≡ codes "help"
  pub aliases : help.aliases ≡ []
  pub runs : (words : List Text) → NoFault run words → IsNumbered 0 4294967295 (one_of (codes "frames") (rows_after run.rules [] words))
  pub races : (words : List Text) → NoFault race words → RaceNumbered (rows_after race.rules [] words)
  pub images : (words : List Text) → NoFault image words → IsNumbered 0 4294967295 (one_of (codes "frames") (rows_after image.rules [] words))

-- of six subcommands, the last of which is `help`
enters_first : (a : App) (run race image check resume help : Shape) → a.subs ≡ run ∷ race ∷ image ∷ check ∷ resume ∷ help ∷ [] → AreCommands run race image check resume help
    → (stop : Option (Text × List Text)) → StopsNotAtHelp stop → entered_fault a stop ≡ [] → IsKnown (entered a stop)
enters_first a run race image check resume help subs are None stops none = tt
enters_first a run race image check resume help subs are (Some p) stops none =
    rw subs (first (answers_to p.0 (label_of run)) (answers_to p.0 (label_of race)) (answers_to p.0 (label_of image)) (answers_to p.0 (label_of check)) (answers_to p.0 (label_of resume)) (answers_to p.0 (label_of help)) refl
    (subst (λ (ss : List Shape). option_map_or (λ s. level_fault s [] nothing_held p.1 false []) (find (λ s. answers_to p.0 (label_of s)) ss) [] ≡ []) subs none))
  where
    first : (is_run is_race is_image is_check is_resume is_help : Bool) → answers_to p.0 (label_of help) ≡ is_help
        → option_map_or (λ s. level_fault s [] nothing_held p.1 false []) (cond is_run (Some run) (cond is_race (Some race) (cond is_image (Some image) (cond is_check (Some check) (cond is_resume (Some resume) (cond is_help (Some help) None)))))) [] ≡ []
        → IsKnown (option_map (λ s. rows_at s p.1) (cond is_run (Some run) (cond is_race (Some race) (cond is_image (Some image) (cond is_check (Some check) (cond is_resume (Some resume) (cond is_help (Some help) None)))))))
    first true is_race is_image is_check is_resume is_help is fault = inl (inl (are.run_name, are.runs p.1 fault))
    first false true is_image is_check is_resume is_help is fault = inl (inr (are.race_name, are.races p.1 fault))
    first false false true is_check is_resume is_help is fault = inr (inl (are.image_name, are.images p.1 fault))
    first false false false true is_resume is_help is fault = inr (inr (inl are.check_name))
    first false false false false true is_help is fault = inr (inr (inr are.resume_name))
    first false false false false false false is fault = tt
    first false false false false false true is fault =
        let named : (bytes_eq (codes "help") p.0 || false) ≡ true = rw (are.help_name, are.aliases) at is in
        let same : bytes_eq p.0 (codes "help") ≡ true = same_either_way (codes "help") p.0 (or_false _ named) in
        let bad = rw same at stops in
        cc

-- the commands as `clap` builds them
abbrev built_run : Shape
built_run = built_leaf (inherited (on_top with_leaf_noted (on_top marked_built tower_app)).top run_app.top)

abbrev built_race : Shape
built_race = built_leaf (inherited (on_top with_leaf_noted (on_top marked_built tower_app)).top race_app.top)

abbrev built_image : Shape
built_image = built_leaf (inherited (on_top with_leaf_noted (on_top marked_built tower_app)).top image_app.top)

abbrev built_check : Shape
built_check = built_leaf (inherited (on_top with_leaf_noted (on_top marked_built tower_app)).top check_app.top)

abbrev built_resume : Shape
built_resume = built_leaf (inherited (on_top with_leaf_noted (on_top marked_built tower_app)).top resume_app.top)

frames_is : IsOption (codes "frames") 0 4294967295 (with_index 1 (filled frames_option))
unfolding clap_on_literals
frames_is = record { id_is = refl; action = refl; parses = refl; case = refl; bare = refl }

rounds_is : IsOption (codes "rounds") 1 1000 (with_index 1 (filled rounds_option))
unfolding clap_on_literals
rounds_is = record { id_is = refl; action = refl; parses = refl; case = refl; bare = refl }

whole_is : IsFlag (with_index 1 (filled whole_flag))
unfolding clap_on_literals
whole_is = record { action = refl; apart = refl; too = refl }

help_is : IsHelp (with_index 1 (filled help_rule))
unfolding clap_on_literals
help_is = record { action = refl; bare = refl }

enters_known : (stop : Option (Text × List Text)) → StopsNotAtHelp stop → entered_fault (built tower_app) stop ≡ [] → IsKnown (entered (built tower_app) stop)
unfolding clap_on_literals
enters_known stop stops none =
    enters_first (built tower_app) built_run built_race built_image built_check built_resume (built_leaf help_shape) refl (record {
      run_name = refl;
      race_name = refl;
      image_name = refl;
      check_name = refl;
      resume_name = refl;
      help_name = refl;
      aliases = refl;
      runs = run_is_named built_run (with_index 1 (filled frames_option)) (with_index 1 (filled help_rule)) refl frames_is help_is;
      races = race_is_named built_race (with_index 1 (filled frames_option)) (with_index 1 (filled rounds_option)) (with_index 1 (filled help_rule)) refl frames_is rounds_is help_is;
      images = image_is_named built_image (with_index 1 (filled frames_option)) (with_index 1 (filled whole_flag)) (with_index 1 (filled help_rule)) refl frames_is whole_is help_is;
    }) stop stops none

pub only_known : (words : List Text) → fault_of tower_app words ≡ [] → IsKnown (subcommand_of tower_app words)
only_known words none =
    let walks = walk_stops (built tower_app).top (names_of (built tower_app)) (walk_from nothing_held) (argument_words tower_app words) refl (first_none _ _ none) tt in
    enters_known _ walks (first_none _ _ (second_none _ _ none))

-- ---- What the parse answers

-- the name of what was entered stands in its rows
name_in_rows : {Z : Type 0} (sub : Option (Box SubCommand Z)) → option_map (λ b. (out-SubCommand (box_value b)).name.now) sub ≡ option_map (λ p. p.0) (subcommand_rows sub)
name_in_rows None = refl
name_in_rows (Some b) = refl

both_parts : (o : Option (Text × List Row)) (name : Text) (rows : List Row) → Some name ≡ option_map (λ p. p.0) o → Some rows ≡ option_map (λ p. p.1) o → o ≡ Some (name, rows)
both_parts None name rows named found = cc
both_parts (Some p) name rows named found =
    let same : name ≡ p.0 = cc in
    let equal : rows ≡ p.1 = cc in
    rw (same, equal) refl

-- the subcommand of matches that are those of the words
pub found_is : (m : ArgMatches) (words : List Text) (name : Text) (rows : List Row) → subcommand_rows_of m ≡ subcommand_of tower_app words
    → Some name ≡ subcommand_name_of m → Some rows ≡ option_map (λ p. p.1) (subcommand_rows_of m) → subcommand_of tower_app words ≡ Some (name, rows)
found_is m words name rows same named found =
    sym same ∙ both_parts (subcommand_rows_of m) name rows (named ∙ name_in_rows (out-ArgMatches m).subcommand) found

-- ---- The job of what was found

-- an option that names a number within bounds, or is absent
number_is : (low high absent : ℕ) (text : Option Text) → low ≤ absent → absent ≤ high → IsNumbered low high text → (n : ℕ) × (option_map_or number_named text (Some absent) ≡ Some n) × (low ≤ n) × (n ≤ high)
number_is low high absent None least most named = (absent, refl, least, most)
number_is low high absent (Some t) least most named = named

run_job : (rows : List Row) → IsNumbered 0 4294967295 (one_of (codes "frames") rows) → IsSome (job_named (codes "run") rows)
run_job rows named =
    let frames = number_is 0 4294967295 16 (one_of (codes "frames") rows) (omega arith) (omega arith) named in
    rw frames.1 refl

race_job : (rows : List Row) → RaceNumbered rows → IsSome (job_named (codes "race") rows)
race_job rows named =
    let frames = number_is 0 4294967295 16 (one_of (codes "frames") rows) (omega arith) (omega arith) named.0 in
    let rounds = number_is 1 1000 100 (one_of (codes "rounds") rows) (omega arith) (omega arith) named.1 in
    rw (frames.1, rounds.1, le-leb 1 rounds.0 rounds.2, le-leb rounds.0 1000 rounds.3) refl

image_job : (rows : List Row) → IsNumbered 0 4294967295 (one_of (codes "frames") rows) → IsSome (job_named (codes "image") rows)
image_job rows named =
    let frames = number_is 0 4294967295 16 (one_of (codes "frames") rows) (omega arith) (omega arith) named in
    rw frames.1 refl

no_job : (name : Text) (rows : List Row) → IsSome (job_named name rows) → job_named name rows ≡ None → ⊥
no_job name rows some none =
    let bad = rw none at some in
    cc

-- words without a fault have a job
pub never_none : (words : List Text) (name : Text) (rows : List Row) → fault_of tower_app words ≡ [] → subcommand_of tower_app words ≡ Some (name, rows) → job_named name rows ≡ None → ⊥
never_none words name rows none is asked = go (subst IsKnown is (only_known words none))
  where
    named : (known : Text) → name ≡ known → IsSome (job_named known rows) → ⊥
    named known is_known some = no_job name rows (subst (λ (n : Text). IsSome (job_named n rows)) (sym is_known) some) asked

    go : (IsRun (name, rows) ⊎ IsRace (name, rows)) ⊎ (IsImage (name, rows) ⊎ (IsCheck (name, rows) ⊎ IsResume (name, rows))) → ⊥
    go (inl (inl run)) = named (codes "run") run.0 (run_job rows run.1)
    go (inl (inr race)) = named (codes "race") race.0 (race_job rows race.1)
    go (inr (inl image)) = named (codes "image") image.0 (image_job rows image.1)
    go (inr (inr (inl check))) = named (codes "check") check refl
    go (inr (inr (inr resume))) = named (codes "resume") resume refl
