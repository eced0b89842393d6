use Rattle.std.specs.Prelude.{Option, Some, None, IfSome, IsSomeAnd}
use Rattle.plm80_console.specs.declared.options.OptionText.{OptionText}
use Rattle.plm80_console.specs.NumberText.{IsWordText}
use Rattle.plm80_names.specs.FrontLaws.{on_err}
use Rattle.plm80_objects.proofs.helpers.locate_options.LocateTexts.numbers.Goals as goal

-- an option writes no word
not_written : (option : Option OptionText) → IsSomeAnd option (λ given. IsWordText given.text.now → ⊥)
    → IfSome option (λ given. IsWordText given.text.now) → ⊥
not_written (Some given) lacks is = lacks is
not_written None lacks is = lacks

pub returns-in_err-word_if_given-clause-wrong : goal.returns-in_err-word_if_given-clause-wrong
returns-in_err-word_if_given-clause-wrong g c =
    on_err c.from_residual.result (λ options are. not_written c.args.self.code c.in_err-word_if_given.ensures.fault are.code.0)

pub returns-in_err-word_if_given-2-clause-wrong : goal.returns-in_err-word_if_given-2-clause-wrong
returns-in_err-word_if_given-2-clause-wrong g c =
    on_err c.from_residual-in_err-word_if_given-2.result (λ options are. not_written c.args.self.stack c.in_err-word_if_given-2.ensures.fault are.stack.0)

pub returns-in_err-word_if_given-3-clause-wrong : goal.returns-in_err-word_if_given-3-clause-wrong
returns-in_err-word_if_given-3-clause-wrong g c =
    on_err c.from_residual-in_err-word_if_given-3.result (λ options are. not_written c.args.self.common c.in_err-word_if_given-3.ensures.fault are.common.0)

pub returns-in_err-word_if_given-4-clause-wrong : goal.returns-in_err-word_if_given-4-clause-wrong
returns-in_err-word_if_given-4-clause-wrong g c =
    on_err c.from_residual-in_err-word_if_given-4.result (λ options are. not_written c.args.self.data_base c.in_err-word_if_given-4.ensures.fault are.data_base.0)

pub returns-in_err-word_if_given-5-clause-wrong : goal.returns-in_err-word_if_given-5-clause-wrong
returns-in_err-word_if_given-5-clause-wrong g c =
    on_err c.from_residual-in_err-word_if_given-5.result (λ options are. not_written c.args.self.memory c.in_err-word_if_given-5.ensures.fault are.memory.0)

pub returns-in_err-word_if_given-6-clause-wrong : goal.returns-in_err-word_if_given-6-clause-wrong
returns-in_err-word_if_given-6-clause-wrong g c =
    on_err c.from_residual-in_err-word_if_given-6.result (λ options are. not_written c.args.self.stack_size c.in_err-word_if_given-6.ensures.fault are.stack_size.0)

pub returns-in_err-word_if_given-7-clause-wrong : goal.returns-in_err-word_if_given-7-clause-wrong
returns-in_err-word_if_given-7-clause-wrong g c =
    on_err c.from_residual-in_err-word_if_given-7.result (λ options are. not_written c.args.self.memory_size c.in_err-word_if_given-7.ensures.fault are.memory_size.0)
