use Rattle.page_map.proofs.WordLaws.{word_entry-entry_word, entry_word-names, word_table-link_word, link_word-names}
use Rattle.page_map.proofs.words_read_back.Goals as goal

pub returns-clause-entries : goal.returns-clause-entries
returns-clause-entries c = word_entry-entry_word

pub returns-clause-entry_words : goal.returns-clause-entry_words
returns-clause-entry_words c = λ e fits kernel. entry_word-names e fits kernel

pub returns-clause-tables : goal.returns-clause-tables
returns-clause-tables c = word_table-link_word

pub returns-clause-table_words : goal.returns-clause-table_words
returns-clause-table_words c = link_word-names
