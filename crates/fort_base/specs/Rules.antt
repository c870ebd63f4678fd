-- The chapter "Table of rules": the name of each rule. The code looks for the number once.
use Rattle.std.specs.Prelude.{ℕ, ◌==◌, List, [], codes, if◌then◌else◌}
use Rattle.fort_base.specs.declared.refusal.Rule.{Rule}
use Rattle.fort_base.specs.declared.rules.TheConstants.{NOT_UTF8, BAD_CHARACTER, OPEN_COMMENT, OPEN_TEXT, BAD_ESCAPE, NUMBER_TOO_LARGE, TOO_MANY_TOKENS, SYNTAX, TOO_DEEP, TOO_MANY, MIXED_SPACING, NO_PRECEDENCE, SPACING_CONTRADICTS, BAD_CHAIN, DUPLICATE_NAME, UNKNOWN_TYPE, CYCLIC_EXTENDS, EXTENDS_OBJECT, EXTENDS_EXCLUDED, NOT_COMPRISED, COMPRISED_NOT_BELOW, DUPLICATE_MEMBER, FIELD_NOT_BELOW, SAME_PARAMETERS, RESULT_NOT_BELOW, NO_MEET, MEET_NOT_DECLARED, ARROW_OVERLAP, TOO_WIDE, ABSTRACT_NOT_COVERED, UNKNOWN_NAME, NOT_APPLICABLE, MISMATCH, NOT_ASSIGNABLE, FUNCTION_AS_VALUE, TIGHT_ARGUMENT, INITIAL_NOT_CONSTANT, NO_RUN, NOT_A_GENERATOR, NOT_AN_EXCEPTION, SHADOWS, WIDENING_UNCLEAR, DUPLICATE_UNIT, UNKNOWN_API, NOT_ONE_EXPORTER, NOT_PROVIDED, NOT_ONE_MAIN, NOT_IMPORTED, TOO_MUCH}

-- The name of a rule; none where no rule has the number.
abbrev pub rule_name : Rule → List ℕ
rule_name rule =
    if rule.0 == NOT_UTF8.0 then codes "NotUtf8" else
    if rule.0 == BAD_CHARACTER.0 then codes "BadCharacter" else
    if rule.0 == OPEN_COMMENT.0 then codes "OpenComment" else
    if rule.0 == OPEN_TEXT.0 then codes "OpenText" else
    if rule.0 == BAD_ESCAPE.0 then codes "BadEscape" else
    if rule.0 == NUMBER_TOO_LARGE.0 then codes "NumberTooLarge" else
    if rule.0 == TOO_MANY_TOKENS.0 then codes "TooManyTokens" else
    if rule.0 == SYNTAX.0 then codes "Syntax" else
    if rule.0 == TOO_DEEP.0 then codes "TooDeep" else
    if rule.0 == TOO_MANY.0 then codes "TooMany" else
    if rule.0 == MIXED_SPACING.0 then codes "MixedSpacing" else
    if rule.0 == NO_PRECEDENCE.0 then codes "NoPrecedence" else
    if rule.0 == SPACING_CONTRADICTS.0 then codes "SpacingContradicts" else
    if rule.0 == BAD_CHAIN.0 then codes "BadChain" else
    if rule.0 == DUPLICATE_NAME.0 then codes "DuplicateName" else
    if rule.0 == UNKNOWN_TYPE.0 then codes "UnknownType" else
    if rule.0 == CYCLIC_EXTENDS.0 then codes "CyclicExtends" else
    if rule.0 == EXTENDS_OBJECT.0 then codes "ExtendsObject" else
    if rule.0 == EXTENDS_EXCLUDED.0 then codes "ExtendsExcluded" else
    if rule.0 == NOT_COMPRISED.0 then codes "NotComprised" else
    if rule.0 == COMPRISED_NOT_BELOW.0 then codes "ComprisedNotBelow" else
    if rule.0 == DUPLICATE_MEMBER.0 then codes "DuplicateMember" else
    if rule.0 == FIELD_NOT_BELOW.0 then codes "FieldNotBelow" else
    if rule.0 == SAME_PARAMETERS.0 then codes "SameParameters" else
    if rule.0 == RESULT_NOT_BELOW.0 then codes "ResultNotBelow" else
    if rule.0 == NO_MEET.0 then codes "NoMeet" else
    if rule.0 == MEET_NOT_DECLARED.0 then codes "MeetNotDeclared" else
    if rule.0 == ARROW_OVERLAP.0 then codes "ArrowOverlap" else
    if rule.0 == TOO_WIDE.0 then codes "TooWide" else
    if rule.0 == ABSTRACT_NOT_COVERED.0 then codes "AbstractNotCovered" else
    if rule.0 == UNKNOWN_NAME.0 then codes "UnknownName" else
    if rule.0 == NOT_APPLICABLE.0 then codes "NotApplicable" else
    if rule.0 == MISMATCH.0 then codes "Mismatch" else
    if rule.0 == NOT_ASSIGNABLE.0 then codes "NotAssignable" else
    if rule.0 == FUNCTION_AS_VALUE.0 then codes "FunctionAsValue" else
    if rule.0 == TIGHT_ARGUMENT.0 then codes "TightArgument" else
    if rule.0 == INITIAL_NOT_CONSTANT.0 then codes "InitialNotConstant" else
    if rule.0 == NO_RUN.0 then codes "NoRun" else
    if rule.0 == NOT_A_GENERATOR.0 then codes "NotAGenerator" else
    if rule.0 == NOT_AN_EXCEPTION.0 then codes "NotAnException" else
    if rule.0 == SHADOWS.0 then codes "Shadows" else
    if rule.0 == WIDENING_UNCLEAR.0 then codes "WideningUnclear" else
    if rule.0 == DUPLICATE_UNIT.0 then codes "DuplicateUnit" else
    if rule.0 == UNKNOWN_API.0 then codes "UnknownApi" else
    if rule.0 == NOT_ONE_EXPORTER.0 then codes "NotOneExporter" else
    if rule.0 == NOT_PROVIDED.0 then codes "NotProvided" else
    if rule.0 == NOT_ONE_MAIN.0 then codes "NotOneMain" else
    if rule.0 == NOT_IMPORTED.0 then codes "NotImported" else
    if rule.0 == TOO_MUCH.0 then codes "TooMuch" else []
