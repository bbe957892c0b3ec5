-- The options and other words that eddyql takes, as a simple command of clap.
use Rattle.std.specs.Prelude.{[], ◌∷◌, Some, true, codes}
use Rattle.clap.specs.Lexer.{usize_max}
use Rattle.clap.specs.Walk.{Rule, Text}
use Rattle.clap.specs.Simple.{App, new_rule, new_shape, with_rule}
use Rattle.clap.specs.declared.builder.action.ArgAction.TheVariants.{SetTrue}

-- an option with a text: `--NAME TEXT` or `--NAME=TEXT`
abbrev pub option_named : Text → Rule
option_named name = record (new_rule name) { long = Some name }

-- a flag: `--NAME`
abbrev pub flag_named : Text → Rule
flag_named name = record (new_rule name) { long = Some name; action = Some SetTrue }

-- the words that are no option's, any number of them
abbrev pub other_words : Rule
other_words =
    record (new_rule (codes "words")) { range = Some (record { start_inclusive = 0; end_inclusive = usize_max }) }

-- the command without options: its words don't begin with the program's name, and it has no help and no version
abbrev pub bare_program : App
bare_program =
    record {
      top =
          record (new_shape (codes "eddyql")) {
            no_binary_name = true;
            disable_help_flag = true;
            disable_version_flag = true;
          };
      subs = [];
    }

-- with the options that say how to run
abbrev pub with_settings : App
with_settings =
    with_rule (with_rule (with_rule (with_rule (with_rule bare_program (option_named (codes "workers")))
    (option_named (codes "policy"))) (option_named (codes "seed"))) (option_named (codes "route")))
    (option_named (codes "cache"))

-- and with those that say how tables are reached
abbrev pub with_reach : App
with_reach =
    with_rule (with_rule (with_rule with_settings (option_named (codes "index"))) (option_named (codes "lookup")))
    (option_named (codes "remote"))

-- the command line: its options, its flags, and any number of other words
unfoldable pub program : App
program =
    record {
      top =
          record bare_program.top {
            rules = option_named (codes "workers") ∷ option_named (codes "policy") ∷ option_named (codes "seed")
                ∷ option_named (codes "route") ∷ option_named (codes "cache") ∷ option_named (codes "index")
                ∷ option_named (codes "lookup") ∷ option_named (codes "remote") ∷ option_named (codes "demo")
                ∷ flag_named (codes "tally") ∷ flag_named (codes "shared") ∷ other_words ∷ [];
          };
      subs = [];
    }
