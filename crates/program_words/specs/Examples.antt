-- Words that ask for a script, a stored feed or help, and words with a fault.
use Rattle.std.specs.Prelude.{◌≡◌, List, [], ◌∷◌, Option, Some, None, option_map, refl, codes}
use Rattle.clap.specs.Words.{Row, Text, all_of, fault_of, first_of, one_of, subcommand_of}
use Rattle.clap.specs.declared.error.kind.ErrorKind.TheVariants as kind
use Rattle.clap.proofs.OnLiterals.{clap_on_literals}
use Rattle.program_words.specs.Words.{copydesk}

a_script : fault_of copydesk (codes "script" ∷ []) ≡ []
unfolding clap_on_literals
a_script = refl

a_strict_script : option_map (λ p. one_of (codes "strict") p.1) (subcommand_of copydesk (codes "script"
    ∷ codes "--strict" ∷ [])) ≡ Some (Some (codes "true"))
unfolding clap_on_literals
a_strict_script = refl

numbers_of_a_desk : option_map (λ p. one_of (codes "number") p.1) (subcommand_of copydesk (codes "desk"
    ∷ codes "a.feed" ∷ codes "--site" ∷ codes "3" ∷ codes "--number" ∷ [])) ≡ Some (Some (codes "true"))
unfolding clap_on_literals
numbers_of_a_desk = refl

a_desk : fault_of copydesk (codes "desk" ∷ codes "a.feed" ∷ codes "--site" ∷ codes "3" ∷ []) ≡ []
unfolding clap_on_literals
a_desk = refl

found : Option (Text × List Row) → Option (Text × (Option Text × Option Text))
found = option_map (λ p. (p.0, (first_of (codes "feed") p.1, one_of (codes "site") p.1)))

a_feed_and_a_site : found (subcommand_of copydesk (codes "desk" ∷ codes "a.feed" ∷ codes "--site" ∷ codes "3" ∷ []))
    ≡ Some (codes "desk", (Some (codes "a.feed"), Some (codes "3")))
unfolding clap_on_literals found
a_feed_and_a_site = refl

a_merge : fault_of copydesk (codes "merge" ∷ codes "a.feed" ∷ codes "b.feed" ∷ codes "c.feed" ∷ []) ≡ []
unfolding clap_on_literals
a_merge = refl

merged : Option (Text × List Row) → Option (Text × (Option Text × Option (List Text)))
merged = option_map (λ p. (p.0, (first_of (codes "feed") p.1, all_of (codes "other") p.1)))

a_feed_and_two_others : merged (subcommand_of copydesk (codes "merge" ∷ codes "a.feed" ∷ codes "b.feed"
    ∷ codes "c.feed" ∷ []))
    ≡ Some (codes "merge", (Some (codes "a.feed"), Some (codes "b.feed" ∷ codes "c.feed" ∷ [])))
unfolding clap_on_literals merged
a_feed_and_two_others = refl

nothing_to_merge : fault_of copydesk (codes "merge" ∷ codes "a.feed" ∷ []) ≡ kind.MissingRequiredArgument ∷ []
unfolding clap_on_literals
nothing_to_merge = refl

an_import : option_map (λ p. one_of (codes "plain") p.1) (subcommand_of copydesk (codes "import" ∷ codes "a.feed"
    ∷ codes "--plain" ∷ codes "--site" ∷ codes "3" ∷ [])) ≡ Some (Some (codes "true"))
unfolding clap_on_literals
an_import = refl

two_exports : fault_of copydesk (codes "export" ∷ codes "a.feed" ∷ codes "b.feed" ∷ []) ≡ kind.UnknownArgument ∷ []
unfolding clap_on_literals
two_exports = refl

site_zero : fault_of copydesk (codes "desk" ∷ codes "a.feed" ∷ codes "--site" ∷ codes "0" ∷ [])
    ≡ kind.ValueValidation ∷ []
unfolding clap_on_literals
site_zero = refl

site_above_all : fault_of copydesk (codes "desk" ∷ codes "a.feed" ∷ codes "--site=65536" ∷ [])
    ≡ kind.ValueValidation ∷ []
unfolding clap_on_literals
site_above_all = refl

no_site : fault_of copydesk (codes "desk" ∷ codes "a.feed" ∷ []) ≡ kind.MissingRequiredArgument ∷ []
unfolding clap_on_literals
no_site = refl

help : fault_of copydesk (codes "--help" ∷ []) ≡ kind.DisplayHelp ∷ []
unfolding clap_on_literals
help = refl

help_of_a_script : fault_of copydesk (codes "script" ∷ codes "-h" ∷ []) ≡ kind.DisplayHelp ∷ []
unfolding clap_on_literals
help_of_a_script = refl

version : fault_of copydesk (codes "--version" ∷ []) ≡ kind.DisplayVersion ∷ []
unfolding clap_on_literals
version = refl

no_words : fault_of copydesk [] ≡ kind.MissingSubcommand ∷ []
unfolding clap_on_literals
no_words = refl

one_word_more : fault_of copydesk (codes "script" ∷ codes "now" ∷ []) ≡ kind.UnknownArgument ∷ []
unfolding clap_on_literals
one_word_more = refl

proofed : Option (Text × List Row) → Option (Text × (Option Text × (Option Text × Option Text)))
proofed = option_map
    (λ p. (p.0, (first_of (codes "case") p.1, (first_of (codes "wedge") p.1, one_of (codes "faults") p.1))))

a_proof : proofed (subcommand_of copydesk (codes "proof" ∷ codes "a.feed" ∷ codes "--case" ∷ codes "c.toml"
    ∷ codes "--faults" ∷ codes "--wedge=w.toml" ∷ []))
    ≡ Some (codes "proof", (Some (codes "c.toml"), (Some (codes "w.toml"), Some (codes "true"))))
unfolding clap_on_literals proofed
a_proof = refl

punched : Option (Text × List Row) → Option (Text × (Option Text × (Option Text × Option Text)))
punched = option_map
    (λ p. (p.0, (first_of (codes "case") p.1, (first_of (codes "wedge") p.1, first_of (codes "output") p.1))))

a_punch : punched (subcommand_of copydesk (codes "punch" ∷ codes "a.feed" ∷ codes "--case" ∷ codes "c.toml"
    ∷ codes "--wedge" ∷ codes "w.toml" ∷ codes "-o" ∷ codes "a.rib" ∷ []))
    ≡ Some (codes "punch", (Some (codes "c.toml"), (Some (codes "w.toml"), Some (codes "a.rib"))))
unfolding clap_on_literals punched
a_punch = refl

several : Option (Text × List Row) → Option (Text × (Option (List Text) × (Option Text × Option Text)))
several = option_map
    (λ p. (p.0, (all_of (codes "feed") p.1, (first_of (codes "case") p.1, first_of (codes "output") p.1))))

a_punch_of_two_feeds : several (subcommand_of copydesk (codes "punch" ∷ codes "a.feed" ∷ codes "b.feed"
    ∷ codes "--case" ∷ codes "c.toml" ∷ codes "--wedge" ∷ codes "w.toml" ∷ codes "-o" ∷ codes "a.rib" ∷ []))
    ≡ Some (codes "punch", (Some (codes "a.feed" ∷ codes "b.feed" ∷ []), (Some (codes "c.toml"), Some (codes "a.rib"))))
unfolding clap_on_literals several
a_punch_of_two_feeds = refl

a_punch_without_a_feed : fault_of copydesk (codes "punch" ∷ codes "--case" ∷ codes "c.toml" ∷ codes "--wedge"
    ∷ codes "w.toml" ∷ codes "-o" ∷ codes "a.rib" ∷ []) ≡ kind.MissingRequiredArgument ∷ []
unfolding clap_on_literals
a_punch_without_a_feed = refl

a_punch_without_a_target : fault_of copydesk (codes "punch" ∷ codes "a.feed" ∷ codes "--case" ∷ codes "c.toml"
    ∷ codes "--wedge" ∷ codes "w.toml" ∷ []) ≡ kind.MissingRequiredArgument ∷ []
unfolding clap_on_literals
a_punch_without_a_target = refl

documented : Option (Text × List Row) → Option (Text × (Option Text × (Option Text × Option Text)))
documented = option_map
    (λ p. (p.0, (first_of (codes "svg") p.1, (first_of (codes "html") p.1, first_of (codes "page") p.1))))

a_document : documented (subcommand_of copydesk (codes "proof" ∷ codes "a.feed" ∷ codes "--case" ∷ codes "c.toml"
    ∷ codes "--wedge" ∷ codes "w.toml" ∷ codes "--html" ∷ codes "a.html" ∷ codes "--page" ∷ codes "letter" ∷ []))
    ≡ Some (codes "proof", (None, (Some (codes "a.html"), Some (codes "letter"))))
unfolding clap_on_literals documented
a_document = refl

replaced : Option (Text × List Row) → Option (Text × (Option Text × (Option Text × Option Text)))
replaced = option_map
    (λ p. (p.0, (first_of (codes "feed") p.1, (first_of (codes "old") p.1, first_of (codes "new") p.1))))

a_replacement : replaced (subcommand_of copydesk (codes "replace" ∷ codes "a.feed" ∷ codes "--site" ∷ codes "3"
    ∷ codes "--" ∷ codes "-x" ∷ codes "y" ∷ []))
    ≡ Some (codes "replace", (Some (codes "a.feed"), (Some (codes "-x"), Some (codes "y"))))
unfolding clap_on_literals replaced
a_replacement = refl

checked : Option (Text × List Row) → Option (Text × Option (List Text))
checked = option_map (λ p. (p.0, all_of (codes "file") p.1))

a_check : checked (subcommand_of copydesk (codes "check" ∷ codes "a.feed" ∷ codes "c.toml" ∷ []))
    ≡ Some (codes "check", Some (codes "a.feed" ∷ codes "c.toml" ∷ []))
unfolding clap_on_literals checked
a_check = refl

seen : Option (Text × List Row) → Option (Text × (Option Text × Option (List Text)))
seen = option_map (λ p. (p.0, (first_of (codes "svg") p.1, all_of (codes "set") p.1)))

a_picture : seen (subcommand_of copydesk (codes "proof" ∷ codes "a.feed" ∷ codes "--case" ∷ codes "c.toml"
    ∷ codes "--wedge" ∷ codes "w.toml" ∷ codes "--svg" ∷ codes "a.svg" ∷ codes "--set" ∷ codes "loose=200"
    ∷ codes "--set=tight=20" ∷ []))
    ≡ Some (codes "proof", (Some (codes "a.svg"), Some (codes "loose=200" ∷ codes "tight=20" ∷ [])))
unfolding clap_on_literals seen
a_picture = refl

no_picture : seen (subcommand_of copydesk (codes "proof" ∷ codes "a.feed" ∷ codes "--case" ∷ codes "c.toml"
    ∷ codes "--wedge" ∷ codes "w.toml" ∷ []))
    ≡ Some (codes "proof", (None, None))
unfolding clap_on_literals seen
no_picture = refl

ribbon_read : Option (Text × List Row) → Option (Text × (Option Text × (Option Text × Option Text)))
ribbon_read = option_map (λ p.
    (p.0, (first_of (codes "ribbon") p.1, (first_of (codes "case") p.1, first_of (codes "wedge") p.1))))

a_reading : ribbon_read (subcommand_of copydesk (codes "read" ∷ codes "a.rib" ∷ codes "--case" ∷ codes "c.toml"
    ∷ codes "--wedge" ∷ codes "w.toml" ∷ []))
    ≡ Some (codes "read", (Some (codes "a.rib"), (Some (codes "c.toml"), Some (codes "w.toml"))))
unfolding clap_on_literals ribbon_read
a_reading = refl

sorted : Option (Text × List Row) → Option (Text × (Option Text × (Option Text × Option Text)))
sorted = option_map (λ p. (
  p.0,
  (first_of (codes "feed") p.1, (first_of (codes "case") p.1, one_of (codes "layout") p.1)),
))

some_sorts : sorted (subcommand_of copydesk (codes "sorts" ∷ codes "a.feed" ∷ codes "--case" ∷ codes "c.toml"
    ∷ codes "--layout" ∷ []))
    ≡ Some (codes "sorts", (Some (codes "a.feed"), (Some (codes "c.toml"), Some (codes "true"))))
unfolding clap_on_literals sorted
some_sorts = refl

renumbered : Option (Text × List Row) → Option (Text × (Option Text × (Option Text × Option Text)))
renumbered = option_map
    (λ p. (p.0, (first_of (codes "feed") p.1, (first_of (codes "other") p.1, one_of (codes "site") p.1))))

a_renumbering : renumbered (subcommand_of copydesk (codes "renumber" ∷ codes "a.feed" ∷ codes "b.feed" ∷ codes "--site"
    ∷ codes "9" ∷ []))
    ≡ Some (codes "renumber", (Some (codes "a.feed"), (Some (codes "b.feed"), Some (codes "9"))))
unfolding clap_on_literals renumbered
a_renumbering = refl

renewed : Option (Text × List Row) → Option (Text × (Option Text × (Option Text × Option Text)))
renewed = option_map
    (λ p. (p.0, (first_of (codes "new") p.1, (first_of (codes "feed") p.1, one_of (codes "site") p.1))))

a_renewal : renewed (subcommand_of copydesk (codes "renew" ∷ codes "b.feed" ∷ codes "a.feed" ∷ codes "--site"
    ∷ codes "1" ∷ []))
    ≡ Some (codes "renew", (Some (codes "b.feed"), (Some (codes "a.feed"), Some (codes "1"))))
unfolding clap_on_literals renewed
a_renewal = refl

then : Option (Text × List Row) → Option (Text × (Option Text × (Option Text × Option Text)))
then = option_map
    (λ p. (p.0, (first_of (codes "feed") p.1, (first_of (codes "other") p.1, one_of (codes "at") p.1))))

a_copy_as_it_was : then (subcommand_of copydesk (codes "export" ∷ codes "a.feed" ∷ codes "--at" ∷ codes "774" ∷ []))
    ≡ Some (codes "export", (Some (codes "a.feed"), (None, Some (codes "774"))))
unfolding clap_on_literals then
a_copy_as_it_was = refl

a_feed_then_and_now : then (subcommand_of copydesk (codes "diff" ∷ codes "a.feed" ∷ codes "--at" ∷ codes "774" ∷ []))
    ≡ Some (codes "diff", (Some (codes "a.feed"), (None, Some (codes "774"))))
unfolding clap_on_literals then
a_feed_then_and_now = refl

no_counter : fault_of copydesk (codes "export" ∷ codes "a.feed" ∷ codes "--at" ∷ codes "now" ∷ [])
    ≡ kind.ValueValidation ∷ []
unfolding clap_on_literals
no_counter = refl

some_rooms : fault_of copydesk (codes "rooms" ∷ codes "a.feed" ∷ []) ≡ []
unfolding clap_on_literals
some_rooms = refl

logged : Option (Text × List Row) → Option (Text × (Option Text × (Option Text × Option Text)))
logged = option_map
    (λ p. (p.0, (first_of (codes "text") p.1, (one_of (codes "site") p.1, one_of (codes "since") p.1))))

a_log : logged (subcommand_of copydesk (codes "log" ∷ codes "a.feed" ∷ codes "--site" ∷ codes "2" ∷ codes "--since"
    ∷ codes "70" ∷ codes "noon" ∷ []))
    ≡ Some (codes "log", (Some (codes "noon"), (Some (codes "2"), Some (codes "70"))))
unfolding clap_on_literals logged
a_log = refl

found_by : Option (Text × List Row) → Option (Text × (Option Text × (Option Text × Option Text)))
found_by = option_map
    (λ p. (p.0, (first_of (codes "text") p.1, (first_of (codes "case") p.1, first_of (codes "wedge") p.1))))

a_search : found_by (subcommand_of copydesk (codes "find" ∷ codes "a.feed" ∷ codes "noon" ∷ codes "--case"
    ∷ codes "c.toml" ∷ codes "--wedge" ∷ codes "w.toml" ∷ []))
    ≡ Some (codes "find", (Some (codes "noon"), (Some (codes "c.toml"), Some (codes "w.toml"))))
unfolding clap_on_literals found_by
a_search = refl

chosen : Option (Text × List Row) → Option (Text × (Option Text × (Option Text × Option Text)))
chosen = option_map
    (λ p. (p.0, (first_of (codes "feed") p.1, (first_of (codes "text") p.1, first_of (codes "format") p.1))))

a_text : chosen (subcommand_of copydesk (codes "proof" ∷ codes "--text" ∷ codes "a.txt" ∷ codes "--case"
    ∷ codes "c.toml" ∷ codes "--wedge" ∷ codes "w.toml" ∷ codes "--format" ∷ codes "gcc" ∷ []))
    ≡ Some (codes "proof", (None, (Some (codes "a.txt"), Some (codes "gcc"))))
unfolding clap_on_literals chosen
a_text = refl

some_lines : option_map (λ p. first_of (codes "lines") p.1) (subcommand_of copydesk (codes "read" ∷ codes "a.rib"
    ∷ codes "--case" ∷ codes "c.toml" ∷ codes "--wedge" ∷ codes "w.toml" ∷ codes "--lines" ∷ codes "2..4" ∷ []))
    ≡ Some (Some (codes "2..4"))
unfolding clap_on_literals
some_lines = refl
