-- What an exported function leaves is its operation's outcome, with the answer as numbers; the check finds it by itself at each of them.
mod Numbered
