-- The texts of specs/Cases.antt, computed.
use Rattle.std.proofs.Common.{refl}
use Rattle.book.specs.Total.{all}
use Rattle.text.specs.Pieces.{lines, bare_length, skip, word, behind, words_up_to, words, is_number, number, numbers_of, byte}
use Rattle.text.specs.Items.{form_of, args_of, times_item, name_of, name_item, item}
use Rattle.text.specs.Meaning.{repeat, said, section, going, meaning}
use Rattle.text.specs.Cases.{TakenCases, RefusedCases}

pub taken_cases : TakenCases
unfolding TakenCases all lines bare_length skip word behind words_up_to words is_number number numbers_of byte
    form_of args_of times_item name_of name_item item repeat said section going meaning
taken_cases = refl

pub refused_cases : RefusedCases
unfolding RefusedCases all lines bare_length skip word behind words_up_to words is_number number numbers_of byte
    form_of args_of times_item name_of name_item item repeat said section going meaning
refused_cases = refl
