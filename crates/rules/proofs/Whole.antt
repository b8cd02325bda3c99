-- `unfolding whole` opens every definition of the rules, for cases that compute.
use Rattle.rules.specs.Basics
use Rattle.rules.specs.Reading
use Rattle.rules.specs.Values
use Rattle.rules.specs.Running
use Rattle.rules.specs.Expanding
use Rattle.rules.specs.Accepting
use Rattle.rules.specs.Calling
use Rattle.rules.specs.Stepping
use Rattle.rules.specs.Lists
use Rattle.rules.specs.Judging
use Rattle.rules.specs.Reporting
use Rattle.rules.specs.Answers

unfoldable pub whole : Unit {0}
unfolding Basics.choose Basics.first_of Basics.given Basics.is_none Basics.any Basics.find Basics.joined Basics.each
    Basics.sum Basics.padded Basics.has Basics.number Basics.most32 Reading.is_empty Reading.refuse Reading.in_range
    Reading.field Reading.fields Reading.zero_byte Reading.closed Reading.size_of Reading.kind_of Reading.whole
    Reading.child Reading.only Reading.comes Reading.group Reading.no_more Reading.statements Reading.expression_body
    Reading.expression Reading.placed Reading.named Reading.set_body Reading.simples Reading.statement_body
    Reading.loop_set Reading.statement Reading.transition_body Reading.rule_body Reading.row_body Reading.fields_body
    Reading.agreement_body Reading.read_tree Reading.tree_of Reading.expr_at Reading.simple_at Values.truth Values.is_true
    Values.checked Values.apply Values.negated Values.on_value Values.both Values.evaluate Running.or_stop Running.view
    Running.assign Running.return_with Running.charge Running.value Running.pay Running.perform Running.condition
    Running.loop Running.repeat Running.statement Running.guarded Expanding.step_kind Expanding.target_of
    Expanding.step_of Expanding.joints Expanding.made Expanding.expand Expanding.expand_transitions Expanding.expansion
    Expanding.words_of Expanding.table Expanding.steps_in Accepting.first_repeat Accepting.sized Accepting.accept
    Accepting.accepted Accepting.file_of Accepting.on_file Accepting.read_file Accepting.too_few Accepting.written
    Accepting.expand_file Calling.zero_state Calling.refused_start Calling.refused_call Calling.total Calling.opening_state
    Calling.no_call Calling.entered Calling.leads Calling.ends_in Calling.state_after Calling.started Calling.called
    Calling.unfit Calling.call_tests Calling.start_setting Calling.call_setting Calling.start_by Calling.call_by
    Calling.run_initial Calling.known Calling.transition_of Calling.run_by Calling.start_tree Calling.call_tree
    Calling.start Calling.call Calling.calls_from Calling.follow Calling.run_list Stepping.target_in Stepping.with
    Stepping.onward Stepping.step_from Stepping.leaving Stepping.entry_of Stepping.entry_known Stepping.admitted
    Stepping.decided Stepping.performed Stepping.advance Stepping.taken Stepping.walk Stepping.walk_from
    Stepping.walk_by Stepping.settled Stepping.start_steps Stepping.call_steps Stepping.begins_with Stepping.lent_tests
    Stepping.lent_steps Stepping.start_expanded Stepping.call_expanded Stepping.run_list_expanded Lists.lists_of
    Lists.lists_to Judging.not_true Judging.violated Judging.is_completed Judging.events_in Judging.later
    Judging.unpreceded Judging.breaks_by Judging.breaks_run Judging.breaks Judging.breaks_expanded Judging.rows_at Judging.first_from Judging.first
    Judging.ruled_by Judging.ruled_on Judging.lists_for Judging.breaking Judging.breaking_expanded Judging.ruling Judging.judged Judging.judged_of
    Judging.refused_verdict Judging.verdict_tests Judging.judge Judging.verdict Reporting.digits Reporting.decimal
    Reporting.spaced Reporting.refused_line Reporting.steps_line Reporting.verdict_part Reporting.rule_line
    Reporting.rule_lines Reporting.report Answers.read_numbers Answers.counted_numbers Answers.value_numbers
    Answers.answer_numbers Answers.verdict_numbers Answers.judged_numbers Answers.state_numbers Answers.state_from
whole = tt
